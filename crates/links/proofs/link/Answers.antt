-- The new link has a greater number than all before it and goes to the head of y's chain; no cell of an older link is written.
use Rattle.links.proofs.Linking.{link_is}
use Rattle.links.proofs.link.Goals as goal

pub returns : goal.returns
returns c =
    link_is
    c.add-e.ensures
    c.place.ensures
    c.get-last.ensures
    c.place-2.ensures
    c.put.ensures
    c.place-3.ensures
    c.put-2.ensures c.place-4.ensures
    c.put-3.ensures

-- The answers of roots in either form: they are in the form of a listing, what a plain listing shows is the answer as it is, and nothing but
-- variables differs (`lines_in`). And the laws of request 1, of each root of each table that is accepted (`numbered_well`). Assumes nothing.
use mathlib.Core.Path.{◌≡◌, refl, sym, ap, subst}
use mathlib.Core.Logic.{◌↔◌}
use mathlib.Core.Bool.{true}
use Prim.Native.Nat.{ℕ, suc, ◌<◌}
use native.Mathlib.Omega.{arith}
use mathlib.Core.List.{List, [], ◌∷◌, ◌++◌}
use lib.ListN.{length, get_or, take, length-map}
use Rattle.cells.specs.Placed.{Under}
use Rattle.rules.specs.Plain.{contains, flag}
use Rattle.rules.specs.Text.{greatest}
use Rattle.rules.specs.Table.{Table, accepted, table_of}
use Rattle.rules.specs.Types.{Node, TyVar, children, node_at}
use Rattle.rules.specs.Canonicalizer.{Shown, Answer, shown, refused_with, first_pass, reader_of, answer_of}
use Rattle.rules.specs.Variables.{free_type_vars, number_among, normalize_vars, nodes_in, answer_in}
use Rattle.rules.specs.Listing.{root_head, head_text, walk, node_texts, answer_text}
use Rattle.rules.specs.declared.Polarity.{Polarity}
use Rattle.rules.specs.declared.Form.{Form}
use Rattle.rules.specs.declared.Form.TheVariants.{Plain, Numbered}
use Rattle.laws.specs.Sound.{Distinct}
use Rattle.laws.specs.Variables.{variables_among}
use Rattle.laws.proofs.Storing.{Rooted}
use Rattle.laws.proofs.Forming.{Formed, ShownFormed, ShowsFormed, ShowsStored, Answers, shows, stops, answer_formed}
use Rattle.laws.proofs.ReadRows.{accepted_formed}
use Rattle.laws.proofs.Numbering.{with_keeps, variable_under, children_with, one_number, up_from, numbers_count, numbered_again, numbered_none}
use Rattle.laws.proofs.Numbering.{numbered_walk, numbered_at, number_low, in_lines, number_in_lines, numbered_apart}

pub plain_answer : (a : Answer) → answer_in Plain a ≡ a
plain_answer (shown a) = refl
plain_answer (refused_with k) = refl

-- as many nodes, with the same children
pub numbered_length : (ns : List Node) (x : ℕ) → length (normalize_vars ns x) ≡ length ns
unfolding normalize_vars
numbered_length ns x = length-map ns _

pub numbered_rooted : (ns : List Node) (x : ℕ) → Rooted ns → Rooted (normalize_vars ns x)
numbered_rooted ns x r = record {
  is = λ i h.
      let kids = children_with _ (node_at ns i) in
      subst (λ (n : Node). Under i (children n)) (sym (numbered_at ns x i)) (subst (Under i) (sym kids) (r.is i (omega (arith, numbered_length ns x))));
}

module _ (names : ℕ) where
  -- a variable's number is one that a line can have
  numbered_formed : (ns : List Node) (x : ℕ) → ((y : ℕ) → Formed names (node_at ns y)) → (y : ℕ) → Formed names (node_at (normalize_vars ns x) y)
  numbered_formed ns x h y =
      let low = number_low ns x (suc greatest) (λ z. variable_under (Formed names) (suc greatest) (λ v g. omega arith) (node_at ns z) (h z)) in
      subst (Formed names) (sym (numbered_at ns x y))
      (with_keeps (Formed names) _ (λ v g. let l = low v (omega arith) in omega arith) (node_at ns y) (h y))

  shown_in_lem : (form : Form) {passes ops x : ℕ} {ns : List Node} → ShownFormed names passes ops ns x → ShownFormed names passes ops (nodes_in form ns x) x
  shown_in_lem Plain s = s
  shown_in_lem Numbered {x = x} {ns} s =
      record {
        once = s.once;
        twice = s.twice;
        counted = s.counted;
        formed = numbered_formed ns x s.formed;
        few = omega (arith, s.few, numbered_length ns x);
        rooted = numbered_rooted ns x s.rooted;
        below = omega (arith, s.below, numbered_length ns x);
      }

  pub formed_in : (form : Form) (a : Answer) → Answers (ShowsStored names) a → Answers (ShowsFormed names) (answer_in form a)
  formed_in form (shown a) (shows s) = shows (shown_in_lem form s.0)
  formed_in form (refused_with k) (stops r) = stops r

-- the walk is the same in either form
walk_in : (form : Form) (ns : List Node) (x : ℕ) → walk (nodes_in form ns x) x ≡ walk ns x
walk_in Plain ns x = refl
walk_in Numbered ns x = numbered_walk ns x x

-- the line of a root, then those of the nodes that are walked, taken from ns
abbrev pub lines_of : ℕ → ℕ → Shown → List Node → List ℕ → List ℕ
lines_of id s a ns seen =
    head_text (root_head ∷ id ∷ s ∷ a.passes ∷ a.operations ∷ flag a.sorted ∷ flag a.bailed ∷ length seen ∷ []) ++ node_texts ns seen 0 seen

-- So a root's lines are the same but for its variables: its own line, then the same nodes in the same order, with the same numbers for children
pub lines_in : (form : Form) (id s : ℕ) (a : Shown)
    → answer_text id s (answer_in form (shown a)) ≡ lines_of id s a (nodes_in form a.nodes a.root) (walk a.nodes a.root)
lines_in form id s a = ap (lines_of id s a (nodes_in form a.nodes a.root)) (walk_in form a.nodes a.root)

-- what request 1 asks of the nodes of root x
pub record NumberedWell (ns : List Node) (x : ℕ) : Type 0 where
  -- the order of first appearance is that of the `tyvar` lines, each of which is another variable's
  pub lines : free_type_vars ns x ≡ variables_among ns (walk ns x)
  pub number : (k v : ℕ) → k < length (walk ns x) → node_at ns (get_or (walk ns x) k 0) ≡ TyVar v
      → number_among (free_type_vars ns x) v ≡ length (variables_among ns (take k (walk ns x)))
  -- "Two variables get one number exactly if they were one"
  pub one : (v w : ℕ) → contains (free_type_vars ns x) v ≡ true → contains (free_type_vars ns x) w ≡ true
      → (number_among (free_type_vars ns x) v ≡ number_among (free_type_vars ns x) w) ↔ (v ≡ w)
  -- the numbers are 0 up to their count
  pub count : free_type_vars (normalize_vars ns x) x ≡ up_from 0 (length (free_type_vars ns x))
  -- "and renumbering again changes nothing"
  pub again : normalize_vars (normalize_vars ns x) x ≡ normalize_vars ns x
  -- "A root without variables keeps its nodes"
  pub none : free_type_vars ns x ≡ [] → normalize_vars ns x ≡ ns
  -- "Nodes are listed afresh after it": in the same places, and none falls together with another
  pub walked : walk (normalize_vars ns x) x ≡ walk ns x
  pub apart : (y z : ℕ) → contains (walk ns x) y ≡ true → contains (walk ns x) z ≡ true
      → node_at (normalize_vars ns x) y ≡ node_at (normalize_vars ns x) z → y ≡ z

pub well_numbered : (ns : List Node) (x : ℕ) → Rooted ns → Distinct ns → x < length ns → NumberedWell ns x
well_numbered ns x r d h =
    record {
      lines = in_lines ns r d x h;
      number = number_in_lines ns r d x h;
      one = one_number ns x;
      count = numbers_count ns x;
      again = numbered_again ns x;
      none = numbered_none ns x;
      walked = numbered_walk ns x x;
      apart = numbered_apart ns r d x h;
    }

shown_of : {Is : Shown → Type 0} (x : Answer) {a : Shown} → Answers Is x → x ≡ shown a → Is a
shown_of {Is} (shown b) {a} (shows s) e = let q : b ≡ a = cc in subst Is q s
shown_of (refused_with k) (stops r) e = let z : ◌≡◌ {A = ℕ} 0 1 = cc in absurd (omega arith)

-- Each root of a table that is accepted, unless it is refused
pub numbered_well : (text : List ℕ) (t : Table) → table_of text ≡ accepted t → (id : ℕ) (pol : Polarity) → id < length t.entries
    → (a : Shown) → answer_of t id pol ≡ shown a → NumberedWell a.nodes a.root
unfolding answer_of first_pass
numbered_well text t e id pol lt a q =
    let p = accepted_formed text t e in
    let s = shown_of (answer_of t id pol) (answer_formed (length t.names) (reader_of t) id pol (first_pass t) p lt) q in
    well_numbered a.nodes a.root s.0.rooted s.1 s.0.below

-- The optional keys of the merged set: its keys as a list, of which each set in turn leaves those that it does not require. Assumes nothing.
use mathlib.Core.Path.{◌≡◌, refl, sym, ap, ap₂, ◌∙◌, subst}
use mathlib.Core.Bool.{Bool, true, false, not, ◌||◌}
use mathlib.Core.Logic.{⊎_elim}
use Prim.Native.Nat.{ℕ, suc, ◌+◌, ◌≤◌, ◌<◌}
use native.Mathlib.Omega.{arith}
use native.Mathlib.Numerals.{add-one}
use mathlib.Core.List.{List, [], ◌∷◌, ◌++◌, append-nil}
use lib.ListN.{length, get_or, take, drop, set, length-set, length-append, length-map, drop_of_length-le, get_or-map}
use lib.Seq.{get_or-set_other, take-suc, take_all, drop-cons, length-take-le}
use borrow.Author.Tests.{not-true, not-false}
use Rattle.cells.specs.Part.{cell, if}
use Rattle.cells.specs.Placed.{Holds}
use Rattle.cells.specs.Sum.{Sum}
use Rattle.cells.proofs.Holding.{holds_at}
use Rattle.rules.specs.Ceilings.{most_names}
use Rattle.rules.specs.Plain.{filter, contains}
use Rattle.rules.specs.Table.{Field, Attr, field_keys}
use Rattle.rules.specs.Types.{field_words, node_at, as_attr}
use Rattle.rules.specs.Types as rules
use Rattle.rules.specs.Members.{optional_in_all, attrs_of}
use Rattle.laws.specs.Sound.{Orderly, OrderlySet}
use Rattle.laws.proofs.Ascending.{From, Rising, rising_of, from_less, from_zero, rising_drop, ascending_filter}
use Rattle.laws.proofs.Filtering.{filter_take, filter_length, filter_both, filter_all, under_at}
use Rattle.laws.proofs.Rows.{field_words_length}
use Rattle.lang_ty.specs.declared.arena.Pass.{Pass}
use Rattle.lang_ty.specs.declared.attrset.Keys.{Keys}
use Rattle.lang_ty.specs.Nodes.{Arena, Written}
use Rattle.lang_ty.proofs.Attrsets.{ahead_later}
use Rattle.lang_ty.specs.Sets.{SetAt, Ahead, FieldKeys, OptionalKeys, KeysFrom, Starts}
use Rattle.lang_ty.specs.Shapes.{SetPlace}
use Rattle.lang_ty.proofs.Rows.{written_none, written_more, written_list}
use Rattle.members.specs.Lists.{Taken, first_of}
use Rattle.members.proofs.Gathered.{few_at, few_below}
use Rattle.merge.specs.declared.Sieve.{Sieve}
use Rattle.merge.specs.Merges.{HeldKey, Free, AllSets, PutsIf, ListsKeys, allowed, Sieved, KeyList, SievesKeys, SievesAll}
use Rattle.merge.proofs.MergeFields.{holds_alike}
use Rattle.merge.proofs.MergeSets.{set_at, set_of_lem, attrs_drop}

-- `put_if`
puts_by_none : {w : List ℕ} {o : ℕ} (k x : ℕ) (b : Bool) → not b ≡ true → PutsIf w o k x b w k
puts_by_none k x true e = let z : ◌≡◌ {A = ℕ} 0 1 = cc in absurd (omega arith)
puts_by_none k x false e =
    record {
      is = λ {w₀} {xs} h f. written_list (sym (append-nil xs)) h;
      size = λ xs f lt. f ∙ ap length (sym (append-nil xs));
      below = λ c lt. refl;
      behind = λ c lt. refl;
    }

puts_by_one : {w w' : List ℕ} {o p r : ℕ} (k x : ℕ) (b : Bool) → not b ≡ false → p ≡ o + k → w' ≡ set w p x → Sum k 1 r → PutsIf w o k x b w' r
puts_by_one {w} {p = p} k x true e f g sum =
    record {
      is = λ {w₀} {xs} h l. written_more x h (omega arith) g;
      size = λ xs l lt. sum.is (omega arith) ∙ omega (arith, length-append xs (x ∷ []));
      below = λ c lt. ap (λ (v : List ℕ). cell v c) g ∙ get_or-set_other w p c x 0 (omega arith);
      behind = λ c lt. ap (λ (v : List ℕ). cell v c) g ∙ get_or-set_other w p c x 0 (omega arith);
    }
puts_by_one k x false e f g sum = let z : ◌≡◌ {A = ℕ} 0 1 = cc in absurd (omega arith)

module _ {w : List ℕ} {o k x : ℕ} {b : Bool} where
  pub puts_none : not b ≡ true → PutsIf w o k x b w k
  puts_none e = puts_by_none k x b e

  pub puts_one : {w' : List ℕ} {p r : ℕ} → not b ≡ false → p ≡ o + k → w' ≡ set w p x → Sum k 1 r → PutsIf w o k x b w' r
  puts_one e f g sum = puts_by_one k x b e f g sum

-- `list_keys` at field i
pub record Listing (held₀ : List ℕ) (a n b : ℕ) (held : List ℕ) (i : ℕ) : Type 0 where
  pub few : i ≤ n
  pub size : length held ≡ length held₀
  pub kept : (c : ℕ) → c < b → cell held c ≡ cell held₀ c
  pub behind : (c : ℕ) → b + i ≤ c → cell held c ≡ cell held₀ c
  pub is : (fs : List Field) → n ≡ length fs → Holds held₀ a (field_words fs) → length fs ≤ most_names → Free held₀ a b → Written b held₀ held (take i (field_keys fs))

module _ {held₀ : List ℕ} {a n b : ℕ} where
  pub listing_start : Listing held₀ a n b held₀ 0
  listing_start = record { few = omega arith; size = refl; kept = λ c lt. refl; behind = λ c le. refl; is = λ fs e h few free. written_none b held₀ }

  module _ {held held' : List ℕ} {i key p : ℕ} (inv : Listing held₀ a n b held i) (lt : i < n) (at : HeldKey held a i key) (place : p ≡ b + i) (e : held' ≡ set held p key) where
    other : (c : ℕ) → (c ≡ p → ⊥) → cell held' c ≡ cell held c
    other c ne = ap (λ (v : List ℕ). cell v c) e ∙ get_or-set_other held p c key 0 ne

    -- the fields lie in another area than the keys
    there : (fs : List Field) → n ≡ length fs → Holds held₀ a (field_words fs) → length fs ≤ most_names → Free held₀ a b → Holds held a (field_words fs)
    there fs size h few free =
        let long = field_words_length fs in
        holds_alike h (λ c lo hi. ⊎_elim (λ l. inv.kept c (omega arith)) (λ l. inv.behind c (omega arith)) free.apart)

    pub listing_more : Listing held₀ a n b held' (i + 1)
    listing_more =
        record {
          few = omega arith;
          size = ap length e ∙ length-set held p key ∙ inv.size;
          kept = λ c l. other c (λ z. omega arith) ∙ inv.kept c l;
          behind = λ c l. other c (λ z. omega arith) ∙ inv.behind c (omega arith);
          is = λ fs size h few free.
              let keys = field_keys fs in
              let long = length-map fs (λ (f : Field). f.key) in
              let key_is : key ≡ get_or keys i 0 =
              at.is fs (there fs size h few free) few (omega arith) ∙ sym (get_or-map (λ (f : Field). f.key) fs i (record { key = 0; type = 0 })) in
              written_list
              (ap (λ (x : ℕ). take i keys ++ (x ∷ [])) key_is ∙ sym (ap (λ (j : ℕ). take j keys) (add-one i) ∙ take-suc keys i 0 (omega arith)))
              (written_more key (inv.is fs size h few free) (omega (arith, length-take-le i keys (omega arith))) e);
        }

  pub listing_done : {held : List ℕ} {i : ℕ} → Listing held₀ a n b held i → n ≤ i → ListsKeys held₀ a n b held
  listing_done {i = i} inv le =
      record {
        kept = inv.kept;
        is = λ fs size h few free.
            written_list (take_all i (field_keys fs) (omega (arith, length-map fs (λ (f : Field). f.key)))) (inv.is fs size h few free);
      }

-- whether the key is one of the set's
told : {w ks : List ℕ} {b key : ℕ} {old next : Keys} {r : Bool} → KeysFrom w old 2 key next → Starts w next key r → Ahead w 2 old ks b → b ≤ key → contains ks key ≡ r
told along found h le = sym (found.is 2 (along.is h le) (along.first h le))

-- the ways of `sieved`: the key is none of the set's, or its optional keys tell
module _ {w : List ℕ} {s : Sieve} {key : ℕ} {next : Keys} {r : Bool} (along : KeysFrom w s.fields 2 key next) (found : Starts w next key r) where
  pub sieved_lacks : not r ≡ true → Sieved w s key (record { fields = next; optional = s.optional; stays = true })
  sieved_lacks e =
      record {
        fields = λ h g le. along.is h le;
        optional = λ h g le. ahead_later key le g;
        is = λ {ks} {os} h g le. sym (ap (λ (v : Bool). not v || contains os key) (told along found h le ∙ not-true r e));
      }

  pub sieved_has : {rest : Keys} {d : Bool} → not r ≡ false → KeysFrom w s.optional 1 key rest → Starts w rest key d
      → Sieved w s key (record { fields = next; optional = rest; stays = d })
  sieved_has e walked starts =
      record {
        fields = λ h g le. along.is h le;
        optional = λ h g le. walked.is g le;
        is = λ {ks} {os} h g le. starts.is 1 (walked.is g le) (walked.first g le) ∙ sym (ap (λ (v : Bool). not v || contains os key) (told along found h le ∙ not-false r e));
      }

-- `sieve_keys` at key i: the keys before it are at most a bound, and from there on the lists say the rest
pub record Sifted (w : List ℕ) (t : Attr) (ks held₀ held : List ℕ) (b : ℕ) (s : Sieve) (k i : ℕ) : Type 0 where
  pub bound : ℕ
  pub from : From bound (drop i ks)
  pub fields : Ahead w 2 s.fields (field_keys t.fields) bound
  pub optional : Ahead w 1 s.optional t.optional bound
  pub written : Written b held₀ held (filter (allowed t) (take i ks))
  pub count : k ≡ length (filter (allowed t) (take i ks))
  pub behind : (c : ℕ) → b + i ≤ c → cell held c ≡ cell held₀ c

pub record Sieving (w held₀ : List ℕ) (b n a : ℕ) (held : List ℕ) (s : Sieve) (k i : ℕ) : Type 0 where
  pub few : i ≤ n
  pub size : length held ≡ length held₀
  pub kept : (c : ℕ) → c < b → cell held c ≡ cell held₀ c
  pub is : {t : Attr} {ks : List ℕ} → SetAt w a t → Orderly t → KeyList held₀ b n ks → Sifted w t ks held₀ held b s k i

module _ {w held₀ : List ℕ} {b n a : ℕ} where
  pub sieving_start : {fs os : Keys} → FieldKeys w a fs → OptionalKeys w a os → Sieving w held₀ b n a held₀ (record { fields = fs; optional = os; stays = true }) 0 0
  sieving_start f g =
      record {
        few = omega arith;
        size = refl;
        kept = λ c lt. refl;
        is = λ {t} {ks} at o l.
            record {
              bound = 0;
              from = from_zero ks;
              fields = f.is at o;
              optional = g.is at o;
              written = written_none b held₀;
              count = refl;
              behind = λ c le. refl;
            };
      }

  module _ {held held' : List ℕ} {s next : Sieve} {k k' i key p : ℕ} (inv : Sieving w held₀ b n a held s k i) (lt : i < n) (place : p ≡ b + i) (e : key ≡ cell held p)
      (step : Sieved w s key next) (put : PutsIf held b k key next.stays held' k') where
    module _ {t : Attr} {ks : List ℕ} (at : SetAt w a t) (o : Orderly t) (l : KeyList held₀ b n ks) where
      abbrev kept_keys : List ℕ
      kept_keys = filter (allowed t) (take i ks)

      mid : Sifted w t ks held₀ held b s k i
      mid = inv.is at o l

      inside : i < length ks
      inside = omega (arith, l.count)

      key_is : key ≡ get_or ks i 0
      key_is = e ∙ ap (cell held) place ∙ mid.behind (b + i) (omega arith) ∙ holds_at l.holds i inside

      split : drop i ks ≡ key ∷ drop (suc i) ks
      split = drop-cons ks i 0 inside ∙ ap (λ (x : ℕ). x ∷ drop (suc i) ks) (sym key_is)

      low : mid.bound ≤ key
      low = subst (From mid.bound) split mid.from

      high : From key (drop (i + 1) ks)
      high =
          subst (λ (j : ℕ). From key (drop j ks)) (sym (add-one i))
          (from_less key (suc key) (drop (suc i) ks) (omega arith) (subst Rising split (rising_drop i ks (rising_of ks l.ascend))).0)

      -- no more are kept than are read
      behind_kept : k ≤ i
      behind_kept = omega (arith, mid.count, filter_length (allowed t) (take i ks), length-take-le i ks (omega (arith, inside)))

      more : kept_keys ++ if next.stays (λ _. key ∷ []) (λ _. []) ≡ filter (allowed t) (take (i + 1) ks)
      more =
          ap₂ (λ (v : Bool) (y : ℕ). kept_keys ++ if v (λ _. y ∷ []) (λ _. [])) (step.is mid.fields mid.optional low ∙ ap (allowed t) key_is) key_is
          ∙ sym (ap (λ (j : ℕ). filter (allowed t) (take j ks)) (add-one i) ∙ filter_take (allowed t) ks i inside)

      sifted_more : Sifted w t ks held₀ held' b next k' (i + 1)
      sifted_more =
          record {
            bound = key;
            from = high;
            fields = step.fields mid.fields mid.optional low;
            optional = step.optional mid.fields mid.optional low;
            written = written_list more (put.is mid.written mid.count);
            count = put.size kept_keys mid.count (omega (arith, behind_kept, mid.count, inside, l.few)) ∙ ap length more;
            behind = λ c le. put.behind c (omega (arith, behind_kept)) ∙ mid.behind c (omega arith);
          }

    pub sieving_more : length held' ≡ length held → Sieving w held₀ b n a held' next k' (i + 1)
    sieving_more long =
        record {
          few = omega arith;
          size = long ∙ inv.size;
          kept = λ c l. put.below c l ∙ inv.kept c l;
          is = λ at o l. sifted_more at o l;
        }

  pub sieving_done : {held : List ℕ} {s : Sieve} {k i : ℕ} → Sieving w held₀ b n a held s k i → n ≤ i → SievesKeys w held₀ b n a held k
  sieving_done {i = i} inv le =
      record {
        kept = inv.kept;
        is = λ {t} {ks} at o l.
            let mid = inv.is at o l in
            let whole : filter (allowed t) (take i ks) ≡ filter (allowed t) ks = ap (filter (allowed t)) (take_all i ks (omega (arith, l.count))) in
            let few : length (filter (allowed t) ks) ≤ most_names = omega (arith, filter_length (allowed t) ks, l.few) in
            record {
              count = mid.count ∙ ap length whole;
              holds = (written_list whole mid.written).row (omega (arith, l.room));
              ascend = ascending_filter (allowed t) ks l.ascend;
              few = few;
              room = omega (arith, l.room, inv.size);
            };
      }

-- the set of member i, and its keys in order
module _ {w xs : List ℕ} {q : Pass} {ns : List rules.Node} {i : ℕ} (h : Arena w q ns) (a : AllSets ns xs) where
  pub set_at_lem : {ms : List ℕ} {n y p : ℕ} → SetPlace w y p → Taken (first_of n ms) xs (length ns) → y ≡ cell ms i → i < n → SetAt w p (set_at ns xs i)
  set_at_lem place m e lt =
      place.is h (few_below m e lt) (ap (node_at ns) (few_at m.list e lt) ∙ set_of_lem (node_at ns (get_or xs i 0)) (a.is i (omega (arith, m.list.count))))

  orderly_at : i < length xs → get_or xs i 0 < length ns → Orderly (set_at ns xs i)
  orderly_at lt low = subst (λ (v : rules.Node). OrderlySet (as_attr v)) (set_of_lem (node_at ns (get_or xs i 0)) (a.is i lt)) (h.ordered.is (get_or xs i 0) low)

-- `sieve_all` at member i: what the sets from there on leave of these keys is what all leave of ks
pub record Left (ns : List rules.Node) (xs ks held : List ℕ) (b k i : ℕ) : Type 0 where
  pub now : List ℕ
  pub list : KeyList held b k now
  pub same : filter (optional_in_all (attrs_of ns (drop i xs))) now ≡ filter (optional_in_all (attrs_of ns xs)) ks

pub record Leaving (w held₀ : List ℕ) (b n : ℕ) (ms : List ℕ) (c : ℕ) (held : List ℕ) (k i : ℕ) : Type 0 where
  pub few : i ≤ c
  pub size : length held ≡ length held₀
  pub kept : (j : ℕ) → j < b → cell held j ≡ cell held₀ j
  pub is : {q : Pass} {ns : List rules.Node} {xs ks : List ℕ} → Arena w q ns → Taken (first_of c ms) xs (length ns) → AllSets ns xs → KeyList held₀ b n ks
      → Left ns xs ks held b k i

module _ {w held₀ : List ℕ} {b n : ℕ} {ms : List ℕ} {c : ℕ} where
  pub leaving_start : Leaving w held₀ b n ms c held₀ n 0
  leaving_start =
      record { few = omega arith; size = refl; kept = λ j lt. refl; is = λ {ks = ks} h m a l. record { now = ks; list = l; same = refl } }

  pub leaving_more : {held held' : List ℕ} {k k' i y p : ℕ} → Leaving w held₀ b n ms c held k i → i < c → y ≡ cell ms i → SetPlace w y p → SievesKeys w held b k p held' k'
      → length held' ≡ length held → Leaving w held₀ b n ms c held' k' (i + 1)
  leaving_more {i = i} inv lt e place call long =
      record {
        few = omega arith;
        size = long ∙ inv.size;
        kept = λ j l. call.kept j l ∙ inv.kept j l;
        is = λ {q} {ns} {xs} {ks} h m a l.
            let x = inv.is h m a l in
            let inside : i < length xs = omega (arith, m.list.count) in
            let t = set_at ns xs i in
            record {
              now = filter (allowed t) x.now;
              list = call.is (set_at_lem h a place m e lt) (orderly_at h a inside (under_at (length ns) xs i m.below inside)) x.list;
              same =
                  sym (filter_both (allowed t) (optional_in_all (attrs_of ns (drop (i + 1) xs))) x.now)
                  ∙ sym (ap (λ (ts : List Attr). filter (optional_in_all ts) x.now) (attrs_drop ns xs i a inside))
                  ∙ x.same;
            };
      }

  pub leaving_done : {held : List ℕ} {k i : ℕ} → Leaving w held₀ b n ms c held k i → c ≤ i → SievesAll w held₀ b n ms c held k
  leaving_done {held} {k} {i} inv le =
      record {
        kept = inv.kept;
        is = λ {q} {ns} {xs} {ks} h m a l.
            let x = inv.is h m a l in
            subst (KeyList held b k)
            (sym (filter_all x.now)
            ∙ sym (ap (λ (l : List ℕ). filter (optional_in_all (attrs_of ns l)) x.now) (drop_of_length-le xs {i = i} (omega (arith, m.list.count))))
            ∙ x.same)
            x.list;
      }

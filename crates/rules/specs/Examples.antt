-- Worked examples, from table text to listing text, as one table: those of the scope document, then some for the rules that those do
-- not show. The theorem of them is `worked`, in proofs/Examples.antt.
use Rattle.std.specs.Prelude.{ℕ, zero, suc, List, [], ◌∷◌, ◌++◌, map, replicate}
use Prim.Native.String.{String}
use Rattle.rules.specs.Plain.{ascii, joined}
use Rattle.rules.specs.Text.{decimal, comma, parted, line_text}

pub record Example : Type 0 where
  pub table : List ℕ
  pub listing : List ℕ

-- a text given in pieces
abbrev bytes : List String → List ℕ
bytes pieces = joined (map ascii pieces)

-- n variables, of which the first is entry b: the next one flows into each of them 16 times, the most that are not deduplicated
abbrev chained : ℕ → ℕ → List ℕ
chained zero b = []
chained (suc n) b = line_text (ascii "var" ∷ parted comma (replicate 16 (decimal (suc b))) ∷ ascii "-" ∷ []) ++ chained n (suc b)

-- roots 0 and 6: variables 24 or 40 in both places; then variable 8, whose chain spends the budget; then K1's, entry 3
abbrev spending : String → String → List ℕ
spending budget roots =
    bytes (budget ∷ "fn\t1\t2\nfn\t24\t24\nfn\t8\t3\nfn\t4\t4\nvar\t5\t-\nprim\t0\nfn\t7\t2\nfn\t40\t40\n" ∷ [])
    ++ chained 32 8 ++ bytes ("var\t-\t-\n" ∷ roots ∷ [])

abbrev pub examples : List Example
examples =
    -- K1: a variable seen in both polarities stays beside its bound, in a second pass
    record {
      table = ascii "budget\t4294967295\nvar\t2\t-\nfn\t0\t0\nprim\t0\nroot\t1\t+\n";
      listing = ascii "answers\t1\nroot\t1\t+\t2\t9\t0\t0\t4\n0\ttyvar\t0\n1\tprim\t0\n2\tunion\t0,1\n3\tfn\t0\t2\n";
    }
    -- K2: a primitive upper bound shows in a positive place
    ∷ record {
      table = ascii "budget\t4294967295\nvar\t-\t2\nfn\t0\t2\nprim\t0\nroot\t1\t+\n";
      listing = ascii "answers\t1\nroot\t1\t+\t1\t4\t0\t0\t2\n0\tprim\t0\n1\tfn\t0\t0\n";
    }
    -- K3: a lower bound shows in a negative place
    ∷ record {
      table = ascii "budget\t4294967295\nvar\t1\t-\nprim\t0\nroot\t0\t-\n";
      listing = ascii "answers\t1\nroot\t0\t-\t1\t2\t0\t0\t1\n0\tprim\t0\n";
    }
    -- K3, marked: it does not
    ∷ record {
      table = ascii "budget\t4294967295\nvar\t1\t-\nprim\t0\nmark\t0\nroot\t0\t-\n";
      listing = ascii "answers\t1\nroot\t0\t-\t1\t1\t0\t0\t1\n0\ttyvar\t0\n";
    }
    -- K4: all members cancelled in a positive place gives Top, and only there
    ∷ record {
      table = ascii "budget\t4294967295\nprim\t0\nneg\t0\nunion\t0\t1\nroot\t2\t+\nroot\t2\t-\n";
      listing = ascii "answers\t2\nroot\t2\t+\t1\t4\t0\t0\t1\n0\ttop\nroot\t2\t-\t1\t4\t0\t0\t3\n0\tprim\t0\n1\tneg\t0\n2\tunion\t0,1\n";
    }
    -- K5: a cancelled pair beside a third member just goes
    ∷ record {
      table = ascii "budget\t4294967295\nprim\t0\nneg\t0\nprim\t3\nunion\t1\t2\nunion\t0\t3\nroot\t4\t+\n";
      listing = ascii "answers\t1\nroot\t4\t+\t1\t6\t0\t0\t1\n0\tprim\t3\n";
    }
    -- K6: bounds are deduplicated by id beyond 16, not at 16
    ∷ record {
      table = ascii "budget\t4294967295\nvar\t1,1,1,1,1,1,1,1,1,1,1,1,1,1,1,1\t-\nprim\t0\nroot\t0\t+\n";
      listing = ascii "answers\t1\nroot\t0\t+\t1\t17\t0\t0\t1\n0\tprim\t0\n";
    }
    -- K6, 17 times
    ∷ record {
      table = ascii "budget\t4294967295\nvar\t1,1,1,1,1,1,1,1,1,1,1,1,1,1,1,1,1\t-\nprim\t0\nroot\t0\t+\n";
      listing = ascii "answers\t1\nroot\t0\t+\t1\t2\t0\t0\t1\n0\tprim\t0\n";
    }
    -- K8: pair (a, b) gives the merged class b's representative
    ∷ record {
      table = ascii "budget\t4294967295\nvar\t-\t-\nvar\t-\t-\nvar\t-\t-\npair\t0\t1\npair\t1\t2\nroot\t0\t+\n";
      listing = ascii "answers\t1\nroot\t0\t+\t1\t1\t0\t0\t1\n0\ttyvar\t2\n";
    }
    -- K9: fillers alone leave the first of them
    ∷ record {
      table = ascii "budget\t4294967295\ntyvar\t9\ntyvar\t8\nunion\t0\t1\nroot\t2\t+\n";
      listing = ascii "answers\t1\nroot\t2\t+\t1\t3\t0\t0\t1\n0\ttyvar\t9\n";
    }
    -- K10: Int and Float contradict each other
    ∷ record {
      table = ascii "budget\t4294967295\nprim\t0\nprim\t1\ninter\t0\t1\nroot\t2\t+\n";
      listing = ascii "answers\t1\nroot\t2\t+\t1\t3\t0\t0\t1\n0\tbottom\n";
    }
    -- K10: Int and Number do not
    ∷ record {
      table = ascii "budget\t4294967295\nprim\t0\nprim\t2\ninter\t0\t1\nroot\t2\t+\n";
      listing = ascii "answers\t1\nroot\t2\t+\t1\t3\t0\t0\t3\n0\tprim\t0\n1\tprim\t2\n2\tinter\t0,1\n";
    }
    -- a variable's own bounds are read, not its representative's
    ∷ record {
      table = ascii "budget\t4294967295\nvar\t2\t-\nvar\t3\t-\nprim\t0\nprim\t1\npair\t0\t1\nroot\t0\t+\n";
      listing = ascii "answers\t1\nroot\t0\t+\t1\t2\t0\t0\t1\n0\tprim\t0\n";
    }
    -- the talk show: `actual` is optional in one demand, required in the other, and so required
    ∷ record {
      table = bytes ("budget\t4294967295\nname\tactual\nname\tplanned\nvar\t-\t3,4\nprim\t0\nlist\t1\nset\t0:1,1:1\t-\t1\t0\n"
          ∷ "set\t0:1\t-\t1\t-\nfn\t0\t2\nroot\t5\t+\n" ∷ []);
      listing = ascii "answers\t1\nroot\t5\t+\t1\t9\t0\t0\t4\n0\tprim\t0\n1\tset\t0:0,1:0\t-\t1\t-\n2\tlist\t0\n3\tfn\t1\t2\n";
    }
    -- a Named bound replaces the variable, the lower rather than the upper, and no polarity is noted
    ∷ record {
      table = ascii "budget\t4294967295\nname\ta\nname\tb\nvar\t1\t2\nnamed\t0\t3\nnamed\t1\t3\nprim\t0\nfn\t0\t0\nroot\t4\t+\n";
      listing = ascii "answers\t1\nroot\t4\t+\t1\t7\t0\t0\t3\n0\tprim\t0\n1\tnamed\t0\t0\n2\tfn\t1\t1\n";
    }
    -- a key in progress answers with its representative, a tyvar too; pairs go in order; an answer in the cache is not redone
    ∷ record {
      table = bytes ("budget\t4294967295\nvar\t3\t-\nvar\t-\t-\nvar\t-\t-\nlist\t0\ntyvar\t0\nunion\t0\t0\nfn\t4\t5\npair\t0\t1\n"
          ∷ "pair\t0\t2\nroot\t6\t+\n" ∷ []);
      listing = ascii "answers\t1\nroot\t6\t+\t1\t7\t0\t0\t3\n0\ttyvar\t2\n1\tlist\t0\n2\tfn\t0\t1\n";
    }
    -- fields and dyn are in the place of their set; in a negative place a function's argument is positive
    ∷ record {
      table = ascii "budget\t4294967295\nname\ta\nvar\t2\t3\nset\t0:0\t2\t0\t0\nprim\t0\nlist\t2\nfn\t0\t2\nroot\t1\t+\nroot\t4\t-\n";
      listing = bytes ("answers\t2\nroot\t1\t+\t1\t4\t0\t0\t2\n0\tprim\t0\n1\tset\t0:0\t0\t0\t0\nroot\t4\t-\t1\t4\t0\t0\t2\n0\tprim\t0\n"
          ∷ "1\tfn\t0\t0\n" ∷ []);
    }
    -- an open set merged with a closed one is closed, and a variable's field gives way to the later
    ∷ record {
      table = bytes ("budget\t4294967295\nname\ta\nname\tb\nvar\t-\t1,2\nset\t0:3,1:4\t-\t1\t-\nset\t0:4\t-\t0\t-\nvar\t-\t-\nprim\t0\n"
          ∷ "root\t0\t-\n" ∷ []);
      listing = ascii "answers\t1\nroot\t0\t-\t1\t6\t0\t0\t2\n0\tprim\t0\n1\tset\t0:0,1:0\t-\t0\t-\n";
    }
    -- Float lies below Number, and not Float stays beside it; Int beside not Number is Bottom; negations alone stay;
    -- a variable that contradicts Null is tried again in the other polarity
    ∷ record {
      table = bytes ("budget\t4294967295\nprim\t0\nprim\t1\nprim\t2\nneg\t1\nneg\t2\ninter\t0\t2\ninter\t5\t3\ninter\t0\t4\ninter\t3\t4\n"
          ∷ "prim\t3\nvar\t0\t9\ninter\t10\t9\nroot\t6\t+\nroot\t7\t+\nroot\t8\t+\nroot\t11\t+\n" ∷ []);
      listing = bytes ("answers\t4\nroot\t6\t+\t1\t6\t0\t0\t5\n0\tprim\t0\n1\tprim\t2\n2\tprim\t1\n3\tneg\t2\n4\tinter\t0,1,3\n"
          ∷ "root\t7\t+\t1\t4\t0\t0\t1\n0\tbottom\nroot\t8\t+\t1\t5\t0\t0\t5\n0\tprim\t1\n1\tneg\t0\n2\tprim\t2\n3\tneg\t2\n"
          ∷ "4\tinter\t1,3\nroot\t11\t+\t2\t11\t0\t0\t5\n0\tprim\t3\n1\ttyvar\t10\n2\tprim\t0\n3\tunion\t1,2\n4\tinter\t0,3\n" ∷ []);
    }
    -- what lacks only an optional field is not disjoint, nor a function from a set that has `__functor`: the negations stay;
    -- two closed sets with different fields contradict each other only beside another constructor
    ∷ record {
      table = bytes ("budget\t4294967295\nname\t__functor\nname\ta\nname\tb\nprim\t0\nset\t1:0\t-\t0\t-\nset\t1:0,2:0\t-\t1\t2\nneg\t2\n"
          ∷ "inter\t1\t3\nset\t0:0\t-\t1\t-\nneg\t5\nfn\t0\t0\ninter\t7\t6\nset\t2:0\t-\t0\t-\ninter\t1\t9\ninter\t10\t7\n"
          ∷ "root\t4\t+\nroot\t8\t+\nroot\t10\t+\nroot\t11\t+\n" ∷ []);
      listing = bytes ("answers\t4\nroot\t4\t+\t1\t7\t0\t0\t5\n0\tprim\t0\n1\tset\t1:0\t-\t0\t-\n2\tset\t1:0,2:0\t-\t1\t2\n3\tneg\t2\n"
          ∷ "4\tinter\t1,3\nroot\t8\t+\t1\t7\t0\t0\t5\n0\tprim\t0\n1\tfn\t0\t0\n2\tset\t0:0\t-\t1\t-\n3\tneg\t2\n4\tinter\t1,3\n"
          ∷ "root\t10\t+\t1\t5\t0\t0\t4\n0\tprim\t0\n1\tset\t1:0\t-\t0\t-\n2\tset\t2:0\t-\t0\t-\n3\tinter\t1,2\n"
          ∷ "root\t11\t+\t1\t9\t0\t0\t1\n0\tbottom\n" ∷ []);
    }
    -- unions that share by twos and not all three stay as they are; a negation takes members off a union, or all of it
    ∷ record {
      table = bytes ("budget\t4294967295\nprim\t0\nprim\t3\nprim\t4\nunion\t0\t1\nunion\t0\t2\nunion\t1\t2\nvar\t-\t3,4,5\nneg\t0\nneg\t1\n"
          ∷ "inter\t3\t7\ninter\t7\t8\ninter\t3\t10\nroot\t6\t-\nroot\t9\t+\nroot\t11\t+\n" ∷ []);
      listing = bytes ("answers\t3\nroot\t6\t-\t1\t10\t0\t0\t7\n0\tprim\t0\n1\tprim\t3\n2\tunion\t0,1\n3\tprim\t4\n4\tunion\t0,3\n"
          ∷ "5\tunion\t1,3\n6\tinter\t2,4,5\nroot\t9\t+\t1\t6\t0\t0\t1\n0\tprim\t3\nroot\t11\t+\t1\t9\t0\t0\t5\n0\tprim\t0\n"
          ∷ "1\tneg\t0\n2\tprim\t3\n3\tneg\t2\n4\tinter\t1,3\n" ∷ []);
    }
    -- shared members are sorted: by kind, numbers ascending, a prefix first
    ∷ record {
      table = bytes ("budget\t4294967295\nname\ta\nprim\t3\nprim\t0\nset\t0:1\t-\t0\t-\nset\t-\t-\t0\t-\nunion\t0\t1\nunion\t2\t3\n"
          ∷ "union\t4\t5\nprim\t4\nunion\t6\t7\ninter\t6\t8\nroot\t9\t+\n" ∷ []);
      listing = bytes ("answers\t1\nroot\t9\t+\t1\t12\t1\t0\t6\n0\tprim\t0\n1\tprim\t3\n2\tset\t-\t-\t0\t-\n3\tset\t0:0\t-\t0\t-\n4\tprim\t4\n"
          ∷ "5\tunion\t0,1,2,3,4\n" ∷ []);
    }
    -- an open set takes up an open one with more fields, and no closed one
    ∷ record {
      table = bytes ("budget\t4294967295\nname\ta\nname\tb\nprim\t0\nset\t0:0\t-\t1\t-\nset\t0:0,1:0\t-\t1\t-\nset\t0:0,1:0\t-\t0\t-\n"
          ∷ "var\t2,1,3\t-\nunion\t2\t1\nroot\t4\t+\nroot\t5\t+\n" ∷ []);
      listing = bytes ("answers\t2\nroot\t4\t+\t1\t9\t0\t0\t4\n0\tprim\t0\n1\tset\t0:0\t-\t1\t-\n2\tset\t0:0,1:0\t-\t0\t-\n3\tunion\t1,2\n"
          ∷ "root\t5\t+\t1\t6\t0\t0\t2\n0\tprim\t0\n1\tset\t0:0\t-\t1\t-\n" ∷ []);
    }
    -- the negation of a union is an intersection, and Neg is taken off; a budget of 0 is not looked at before operation 512
    ∷ record {
      table = ascii "budget\t0\nprim\t0\nprim\t3\nneg\t1\nunion\t0\t2\nneg\t3\nneg\t4\nroot\t4\t+\nroot\t5\t+\n";
      listing = bytes ("answers\t2\nroot\t4\t+\t1\t5\t0\t0\t4\n0\tprim\t0\n1\tneg\t0\n2\tprim\t3\n3\tinter\t1,2\nroot\t5\t+\t1\t6\t0\t0\t4\n"
          ∷ "0\tprim\t0\n1\tprim\t3\n2\tneg\t1\n3\tunion\t0,2\n" ∷ []);
    }
    -- Int and Float contradict each other as upper bounds; Bottom is a filler; an upper bound that is a list does not show
    -- in a positive place
    ∷ record {
      table = bytes ("budget\t4294967295\nprim\t0\nprim\t1\nvar\t-\t0,1\ninter\t0\t1\nprim\t3\nvar\t3,4\t-\nlist\t0\nvar\t-\t6\nroot\t2\t-\n"
          ∷ "root\t5\t+\nroot\t7\t+\n" ∷ []);
      listing = bytes ("answers\t3\nroot\t2\t-\t1\t3\t0\t0\t1\n0\tbottom\nroot\t5\t+\t1\t5\t0\t0\t1\n0\tprim\t3\nroot\t7\t+\t1\t1\t0\t0\t1\n"
          ∷ "0\ttyvar\t7\n" ∷ []);
    }
    -- a variable of the second pass's set is no filler
    ∷ record {
      table = ascii "budget\t4294967295\nvar\t-\t-\nvar\t0\t-\nfn\t0\t1\nroot\t2\t+\n";
      listing = ascii "answers\t1\nroot\t2\t+\t2\t8\t0\t0\t2\n0\ttyvar\t0\n1\tfn\t0\t0\n";
    }
    -- root 0: the first pass bails before it comes to entry 3, and the second, which does not, shows K1 as if its variable were not in both
    -- places: bailed. Root 6: both passes bail
    ∷ record {
      table = spending "budget\t511\n" "root\t0\t+\nroot\t6\t+\n";
      listing = bytes ("answers\t2\nroot\t0\t+\t2\t779\t0\t1\t6\n0\ttyvar\t24\n1\tfn\t0\t0\n2\tprim\t0\n3\tfn\t2\t2\n4\tfn\t0\t3\n5\tfn\t1\t4\n"
          ∷ "root\t6\t+\t2\t1024\t0\t1\t5\n0\ttyvar\t40\n1\tfn\t0\t0\n2\ttyvar\t3\n3\tfn\t0\t2\n4\tfn\t1\t3\n" ∷ []);
    }
    -- root 6 with more budget: only the second pass bails
    ∷ record {
      table = spending "budget\t600\n" "root\t6\t+\n";
      listing = ascii "answers\t1\nroot\t6\t+\t2\t1035\t0\t1\t5\n0\ttyvar\t40\n1\tfn\t0\t0\n2\ttyvar\t3\n3\tfn\t0\t2\n4\tfn\t1\t3\n";
    }
    ∷ []

-- Worked examples of the calls, as one table: all that a call is given, and what it comes to. What types come out is shown in
-- Examples.antt; here stands what is refused, with its number and line, what recheck keeps and what it does again. Beside each is the
-- sentence of the scope document that it shows. The theorem of them is `called`, in proofs/CallExamples.antt.
-- Left out, since such an input has hundreds of lines and more: 8 and 9, and of 2 the 1,025th name, the 2,049th entry, the 8,193rd id or
-- key, the 2,049th pair and the 513th mark. They are run.
use Rattle.std.specs.Prelude.{ℕ, zero, suc, List, [], ◌∷◌, ◌++◌}
use Prim.Native.String.{String}
use Rattle.rules.specs.Plain.{ascii}
use Rattle.rules.specs.Text.{decimal, comma, parted, line_text}
use Rattle.rules.specs.Table.{Result, accepted, refused}
use Rattle.rules.specs.declared.Form.TheVariants.{Plain, Numbered}
use Rattle.rules.specs.Calls.{canon, canon_root, recheck, lent, canon_program, recheck_program}

-- a call, or a program, with all that it is given; the last number of a call is the length of its output
pub data Call : Type 0 where
  of_canon : List ℕ → ℕ → Call
  of_canon_numbered : List ℕ → ℕ → Call
  of_canon_root : List ℕ → ℕ → ℕ → ℕ → Call
  of_recheck : List ℕ → List ℕ → List ℕ → ℕ → Call
  of_recheck_numbered : List ℕ → List ℕ → List ℕ → ℕ → Call
  canon_reads : List ℕ → Call
  recheck_reads : List ℕ → Call
  canon_numbered_reads : List ℕ → Call
  recheck_numbered_reads : List ℕ → Call

-- what it comes to: the text or the refusal of a call, or what a program prints
abbrev pub comes_to : Call → Result (List ℕ)
comes_to (of_canon text room) = canon Plain text room
comes_to (of_canon_numbered text room) = canon Numbered text room
comes_to (of_canon_root text id s room) = canon_root text id s room
comes_to (of_recheck old new listing room) = recheck Plain old new listing room
comes_to (of_recheck_numbered old new listing room) = recheck Numbered old new listing room
comes_to (canon_reads input) = accepted (canon_program Plain input)
comes_to (recheck_reads input) = accepted (recheck_program Plain input)
comes_to (canon_numbered_reads input) = accepted (canon_program Numbered input)
comes_to (recheck_numbered_reads input) = accepted (recheck_program Numbered input)

abbrev pub written : String → Result (List ℕ)
written text = accepted (ascii text)

pub record CallExample : Type 0 where
  pub call : Call
  pub result : Result (List ℕ)

-- a text n times over
abbrev pub times : ℕ → List ℕ → List ℕ
times zero text = []
times (suc n) text = text ++ times n text

-- n line feeds
abbrev pub empty_lines : ℕ → List ℕ
empty_lines zero = []
empty_lines (suc n) = 10 ∷ empty_lines n

-- n lists, each around the next entry, from entry k on, and a prim in the last of them
abbrev pub nested : ℕ → ℕ → List ℕ
nested zero k = ascii "prim\t0\n"
nested (suc n) k = line_text (ascii "list" ∷ decimal (suc k) ∷ []) ++ nested n (suc k)

-- the numbers from k on, n of them
abbrev pub numbers_from : ℕ → ℕ → List (List ℕ)
numbers_from k zero = []
numbers_from k (suc n) = decimal k ∷ numbers_from (suc k) n

-- the two shows of README: the talk show and the list that it gives, with the line of one demand
abbrev pub shows : String → List ℕ
shows demand =
    ascii "budget\t4294967295\nname\tactual\nname\tplanned\nvar\t-\t3,4\nprim\t0\nlist\t1\nset\t0:1,1:1\t-\t1\t0\n"
    ++ ascii demand
    ++ ascii "fn\t0\t2\nroot\t5\t+\nroot\t2\t+\n"

abbrev pub shows_listing : List ℕ
shows_listing =
    ascii "answers\t2\nroot\t5\t+\t1\t9\t0\t0\t4\n0\tprim\t0\n1\tset\t0:0,1:0\t-\t1\t-\n2\tlist\t0\n3\tfn\t1\t2\n"
    ++ ascii "root\t2\t+\t1\t2\t0\t0\t2\n0\tprim\t0\n1\tlist\t0\n"

-- a variable with a lower bound, one with an upper bound, that bound, and the number of that bound as a tyvar; each is a root
abbrev pub four : String → List ℕ
four bound = ascii "budget\t1\nvar\t2\t-\nvar\t-\t2\n" ++ ascii bound ++ ascii "tyvar\t2\nroot\t0\t+\nroot\t1\t+\nroot\t2\t+\nroot\t3\t+\n"

-- Int as the only root, with what stands before its line
abbrev pub only_int : String → List ℕ
only_int lines = ascii "budget\t1\nprim\t0\n" ++ ascii lines ++ ascii "root\t0\t+\n"

-- what recheck makes of that table, not edited, and an old listing
abbrev pub keeping : String → ℕ → Call
keeping listing room = of_recheck (only_int "") (only_int "") (ascii listing) room

-- the same with numbered listings
abbrev pub keeping_numbered : String → ℕ → Call
keeping_numbered listing room = of_recheck_numbered (only_int "") (only_int "") (ascii listing) room

-- two variables of a number that is no entry's, each a root
abbrev pub two_variables : String → List ℕ
two_variables second = ascii "budget\t1\ntyvar\t9\n" ++ ascii second ++ ascii "root\t0\t+\nroot\t1\t+\n"

abbrev pub call_examples : List CallExample
call_examples =
    -- recheck. "a first line of `kept` or `redone` for each root, tab between, then the listing": one demand of README's shows is softened
    record {
      call = recheck_reads (shows "set\t0:1\t-\t1\t-\n" ++ ascii "next\n" ++ shows "set\t0:1\t-\t1\t0\n" ++ ascii "next\n" ++ shows_listing);
      result = accepted (ascii "redone\tkept\nanswers\t2\nroot\t5\t+\t1\t9\t0\t0\t4\n0\tprim\t0\n1\tset\t0:0,1:0\t-\t1\t0\n2\tlist\t0\n3\tfn\t1\t2\n"
          ++ ascii "root\t2\t+\t1\t2\t0\t0\t2\n0\tprim\t0\n1\tlist\t0\n");
    }
    -- all roots are kept where no chain from one meets the edit; "Its types and operation counts needn't be right": they are copied
    ∷ record {
      call = of_recheck (ascii "budget\t1\nprim\t0\nprim\t3\nroot\t0\t+\nroot\t0\t-\n") (ascii "budget\t1\nprim\t0\nprim\t4\nroot\t0\t+\nroot\t0\t-\n")
          (ascii "answers\t2\nroot\t0\t+\t2\t77\t1\t1\t1\n0\tprim\t5\nrefused\t0\t-\t9\n") lent;
      result = written "kept\tkept\nanswers\t2\nroot\t0\t+\t2\t77\t1\t1\t1\n0\tprim\t5\nrefused\t0\t-\t9\n";
    }
    -- lower and upper bounds lead to the edit, a tyvar's number does not; "A redone root's lines are those the new table gives, even where
    -- the old listing was wrong"
    ∷ record {
      call = of_recheck (four "prim\t0\n") (four "prim\t1\n")
          (ascii "answers\t4\nrefused\t0\t+\t6\nrefused\t1\t+\t7\nrefused\t2\t+\t8\nrefused\t3\t+\t9\n") lent;
      result = accepted (ascii "redone\tredone\tredone\tkept\nanswers\t4\nroot\t0\t+\t1\t2\t0\t0\t1\n0\tprim\t1\nroot\t1\t+\t1\t2\t0\t0\t1\n0\tprim\t1\n"
          ++ ascii "root\t2\t+\t1\t1\t0\t0\t1\n0\tprim\t1\nrefused\t3\t+\t9\n");
    }
    -- a dyn leads to the edit as a field does
    ∷ record {
      call = of_recheck (ascii "budget\t1\nset\t-\t1\t0\t-\nprim\t0\nroot\t0\t+\n") (ascii "budget\t1\nset\t-\t1\t0\t-\nprim\t1\nroot\t0\t+\n")
          (ascii "answers\t1\nrefused\t0\t+\t6\n") lent;
      result = written "redone\nanswers\t1\nroot\t0\t+\t1\t2\t0\t0\t2\n0\tprim\t1\n1\tset\t-\t0\t0\t-\n";
    }
    -- "With no roots that line is empty"
    ∷ record { call = recheck_reads (ascii "budget\t1\nnext\nbudget\t1\nnext\nanswers\t0\n"); result = written "\nanswers\t0\n" }
    -- "A part left out for want of `next` is empty": the listing, then the new table
    ∷ record { call = recheck_reads (ascii "budget\t1\nnext\nbudget\t1\n"); result = written "refused\t11\t1\n" }
    ∷ record { call = recheck_reads (ascii "budget\t1\n"); result = written "refused\t1\t1\n" }
    -- a line that only begins with `next` is no `next`
    ∷ record { call = recheck_reads (ascii "budget\t1\nnexts\n"); result = written "refused\t1\t2\n" }
    -- a last `next` without its line feed is no line, but a fault of the old table; a third one is a line of the listing
    ∷ record { call = recheck_reads (ascii "budget\t1\nnext"); result = written "refused\t1\t2\n" }
    ∷ record { call = recheck_reads (ascii "budget\t1\nnext\nbudget\t1\nnext\nanswers\t0\nnext\n"); result = written "refused\t11\t2\n" }
    -- "Recheck refuses a bad old table, by length too, before a bad new one; lines are counted within the text at fault"; "Then 10, 11": the
    -- second has another budget besides
    ∷ record { call = of_recheck (ascii "budget\t1\nfrozen\n") (ascii "prim\t0\n") [] lent; result = refused 5 2 }
    ∷ record { call = of_recheck (ascii "budget\t1\n") (ascii "budget\t2\nfrozen\n") [] lent; result = refused 5 2 }
    ∷ record { call = of_recheck (empty_lines 65537) (ascii "prim\t0\n") [] lent; result = refused 2 0 }
    -- 10: "budget, n, or a name, pair, mark or root line differs", and before 11: the listing is empty
    ∷ record { call = of_recheck (ascii "budget\t1\n") (ascii "budget\t2\n") [] lent; result = refused 10 0 }
    ∷ record { call = of_recheck (only_int "") (only_int "prim\t0\n") [] lent; result = refused 10 0 }
    ∷ record { call = of_recheck (ascii "budget\t1\nname\ta\n") (ascii "budget\t1\nname\tb\n") [] lent; result = refused 10 0 }
    ∷ record { call = of_recheck (only_int "") (only_int "pair\t0\t0\n") [] lent; result = refused 10 0 }
    ∷ record { call = of_recheck (only_int "mark\t0\n") (only_int "mark\t1\n") [] lent; result = refused 10 0 }
    ∷ record { call = of_recheck (only_int "") (only_int "root\t0\t-\n") [] lent; result = refused 10 0 }
    -- the same with a listing that is in form
    ∷ record {
      call = of_recheck (only_int "mark\t0\n") (only_int "mark\t1\n") (ascii "answers\t1\nroot\t0\t+\t1\t1\t0\t0\t1\n0\tprim\t0\n") lent;
      result = refused 10 0;
    }
    -- 12: "the text to be written is longer than the lent output": 43 bytes with the first line, so that 43 suffice and 42 do not
    ∷ record {
      call = keeping "answers\t1\nroot\t0\t+\t1\t1\t0\t0\t1\n0\tprim\t0\n" 43;
      result = written "kept\nanswers\t1\nroot\t0\t+\t1\t1\t0\t0\t1\n0\tprim\t0\n";
    }
    ∷ record { call = keeping "answers\t1\nroot\t0\t+\t1\t1\t0\t0\t1\n0\tprim\t0\n" 42; result = refused 12 0 }
    -- 11: "old listing not in form", and before 12; "at most 65,536 bytes (else 11, line 0)"
    ∷ record { call = keeping "" 0; result = refused 11 1 }
    ∷ record { call = of_recheck (ascii "budget\t1\n") (ascii "budget\t1\n") (empty_lines 65537) 0; result = refused 11 0 }
    -- "not for these roots in this order": another sign, another id, another count
    ∷ record { call = keeping "answers\t1\nroot\t0\t-\t1\t1\t0\t0\t1\n0\tprim\t0\n" lent; result = refused 11 2 }
    ∷ record { call = keeping "answers\t1\nrefused\t1\t+\t6\n" lent; result = refused 11 2 }
    ∷ record { call = keeping "answers\t2\nroot\t0\t+\t1\t1\t0\t0\t1\n0\tprim\t0\n" lent; result = refused 11 1 }
    -- "earliest line at fault, or where one lacks": a node's line lacks; its line feed does; a line is left over
    ∷ record { call = keeping "answers\t1\nroot\t0\t+\t1\t1\t0\t0\t1\n" lent; result = refused 11 3 }
    ∷ record { call = keeping "answers\t1\nroot\t0\t+\t1\t1\t0\t0\t1\n0\tprim\t0" lent; result = refused 11 3 }
    ∷ record { call = keeping "answers\t1\nroot\t0\t+\t1\t1\t0\t0\t1\n0\tprim\t0\n1\tprim\t0\n" lent; result = refused 11 4 }
    -- "An old listing has no kept/redone line"
    ∷ record { call = keeping "kept\nanswers\t1\nrefused\t0\t+\t6\n" lent; result = refused 11 1 }
    -- "the lines, words and decimals above, passes 1 or 2, marks 0 or 1, refusals 6 to 9"
    ∷ record { call = keeping "answers\t1\nroot\t0\t+\t1\t01\t0\t0\t1\n0\tprim\t0\n" lent; result = refused 11 2 }
    ∷ record { call = keeping "answers\t1\nroot\t0\t+\t3\t1\t0\t0\t1\n0\tprim\t0\n" lent; result = refused 11 2 }
    ∷ record { call = keeping "answers\t1\nroot\t0\t+\t1\t1\t2\t0\t1\n0\tprim\t0\n" lent; result = refused 11 2 }
    ∷ record { call = keeping "answers\t1\nrefused\t0\t+\t5\n" lent; result = refused 11 2 }
    ∷ record { call = keeping "answers\t1\nrefused\t0\t+\t10\n" lent; result = refused 11 2 }
    -- "1 to 4,096 nodes in sequence, each child smaller than its node, at most 128 members, and ascending keys below the name count"
    ∷ record { call = keeping "answers\t1\nroot\t0\t+\t1\t1\t0\t0\t0\n" lent; result = refused 11 2 }
    ∷ record { call = keeping "answers\t1\nroot\t0\t+\t1\t1\t0\t0\t4097\n" lent; result = refused 11 2 }
    ∷ record { call = keeping "answers\t1\nroot\t0\t+\t1\t1\t0\t0\t1\n1\tprim\t0\n" lent; result = refused 11 3 }
    ∷ record { call = keeping "answers\t1\nroot\t0\t+\t1\t1\t0\t0\t1\n0\tlist\t0\n" lent; result = refused 11 3 }
    ∷ record {
      call = of_recheck (only_int "") (only_int "")
          (ascii "answers\t1\nroot\t0\t+\t1\t1\t0\t0\t2\n0\tprim\t0\n1\tunion\t0" ++ times 128 (ascii ",0") ++ ascii "\n") lent;
      result = refused 11 4;
    }
    ∷ record { call = keeping "answers\t1\nroot\t0\t+\t1\t1\t0\t0\t1\n0\tset\t-\t-\t0\t0\n" lent; result = refused 11 3 }
    -- canon_root gives one root's lines, whatever roots the table has: K1's, in two passes
    ∷ record {
      call = of_canon_root (ascii "budget\t4294967295\nvar\t2\t-\nfn\t0\t0\nprim\t0\n") 1 0 lent;
      result = written "root\t1\t+\t2\t9\t0\t0\t4\n0\ttyvar\t0\n1\tprim\t0\n2\tunion\t0,1\n3\tfn\t0\t2\n";
    }
    -- a sign of 1, and any other but 0, is `-`: K4's root, with all members cancelled in a positive place only
    ∷ record { call = of_canon_root (ascii "budget\t1\nprim\t0\nneg\t0\nunion\t0\t1\n") 2 0 lent; result = written "root\t2\t+\t1\t4\t0\t0\t1\n0\ttop\n" }
    ∷ record {
      call = of_canon_root (ascii "budget\t1\nprim\t0\nneg\t0\nunion\t0\t1\n") 2 1 lent;
      result = written "root\t2\t-\t1\t4\t0\t0\t3\n0\tprim\t0\n1\tneg\t0\n2\tunion\t0,1\n";
    }
    ∷ record { call = of_canon_root (ascii "budget\t1\nprim\t0\n") 0 7 lent; result = written "root\t0\t-\t1\t1\t0\t0\t1\n0\tprim\t0\n" }
    -- "Calls that take a root directly refuse one of n or more with 3 and line 0", after every fault of the table, and before 12
    ∷ record { call = of_canon_root (ascii "budget\t1\nprim\t0\n") 1 0 0; result = refused 3 0 }
    ∷ record { call = of_canon_root (ascii "budget\t1\nprim\t0\nroot\t1\t+\n") 1 0 lent; result = refused 3 3 }
    ∷ record { call = of_canon_root (ascii "budget\t1\nfrozen\n") 9 1 lent; result = refused 5 2 }
    -- 12: 28 bytes
    ∷ record { call = of_canon_root (ascii "budget\t1\nprim\t0\n") 0 0 28; result = written "root\t0\t+\t1\t1\t0\t0\t1\n0\tprim\t0\n" }
    ∷ record { call = of_canon_root (ascii "budget\t1\nprim\t0\n") 0 0 27; result = refused 12 0 }
    -- canon, and "A refused call prints `refused`, number, line". 12: 38 bytes
    ∷ record { call = of_canon (only_int "") 38; result = written "answers\t1\nroot\t0\t+\t1\t1\t0\t0\t1\n0\tprim\t0\n" }
    ∷ record { call = of_canon (only_int "") 37; result = refused 12 0 }
    ∷ record { call = canon_reads (ascii "budget\t1\nfrozen\n"); result = written "refused\t5\t2\n" }
    -- 1: "a line is not in the form or order above, or no budget line"; "A missing budget line is told at the line where it should be"
    ∷ record { call = of_canon [] lent; result = refused 1 1 }
    ∷ record { call = of_canon (ascii "prim\t0\nbudget\t1\n") lent; result = refused 1 1 }
    -- "`budget` N, exactly one line"; "each line ended by a line feed"; "Sections in this order"
    ∷ record { call = of_canon (ascii "budget\t1\nbudget\t1\n") lent; result = refused 1 2 }
    ∷ record { call = of_canon (ascii "budget\t1\nprim\t0") lent; result = refused 1 2 }
    ∷ record { call = of_canon (ascii "budget\t1\n\n") lent; result = refused 1 2 }
    ∷ record { call = of_canon (ascii "budget\t1\nmark\t0\npair\t0\t0\n") lent; result = refused 1 3 }
    -- "at most 4,294,967,295, no leading zero except 0 itself"
    ∷ record { call = of_canon (ascii "budget\t4294967296\n") lent; result = refused 1 1 }
    ∷ record { call = of_canon (ascii "budget\t00\n") lent; result = refused 1 1 }
    ∷ record { call = of_canon (ascii "budget\t0\n") lent; result = written "answers\t0\n" }
    -- "Bytes 0x00-0x1f, 0x5c and 0x7f are written as a backslash and two lower-case hex digits, no other byte is"; "The empty name and the name
    -- `-` are allowed"
    ∷ record { call = of_canon (ascii "budget\t0\nname\t\nname\t\\1f\nname\t-\nname\t\\5c\nname\t\\7f\n") lent; result = written "answers\t0\n" }
    ∷ record { call = of_canon (ascii "budget\t0\nname\t\\1F\n") lent; result = refused 1 2 }
    ∷ record { call = of_canon (ascii "budget\t0\nname\t\\61\n") lent; result = refused 1 2 }
    -- "Primitive codes 0 to 31 (beyond either is 1)"; "Open is 0 or 1"
    ∷ record { call = of_canon (ascii "budget\t0\nprim\t31\nprim\t32\n") lent; result = refused 1 3 }
    ∷ record { call = of_canon (ascii "budget\t0\nset\t-\t-\t2\t-\n") lent; result = refused 1 2 }
    -- 2: "a ceiling is passed", "line, 0 for text length"; "text 65,536 bytes" is looked at before all lines; "roots 64"
    ∷ record { call = of_canon (empty_lines 65537) lent; result = refused 2 0 }
    ∷ record { call = of_canon (ascii "budget\t0\nprim\t0\n" ++ times 65 (ascii "root\t0\t+\n")) lent; result = refused 2 67 }
    -- "of at most 255 bytes unescaped"; one more is below, with other faults of its line
    ∷ record { call = of_canon (ascii "budget\t0\nname\t" ++ times 255 (ascii "a") ++ ascii "\n") lent; result = written "answers\t0\n" }
    -- 3: "Ids in bounds, children and roots must be below the entry count n", names below theirs; "then 3 on the earliest line"
    ∷ record { call = of_canon (ascii "budget\t0\nprim\t0\nlist\t2\nroot\t2\t+\n") lent; result = refused 3 3 }
    ∷ record { call = of_canon (ascii "budget\t0\nname\ta\nset\t-\t-\t0\t1\n") lent; result = refused 3 3 }
    ∷ record { call = of_canon (ascii "budget\t0\nname\ta\nprim\t0\nnamed\t1\t0\n") lent; result = refused 3 4 }
    ∷ record { call = of_canon (ascii "budget\t0\nprim\t0\npair\t0\t0\nmark\t0\nroot\t1\t+\n") lent; result = refused 3 5 }
    -- "Numbers in `tyvar`, `pair` and `mark` may be any"; "an optional key needn't be a field"
    ∷ record { call = of_canon (ascii "budget\t0\nname\ta\ntyvar\t9\nset\t-\t-\t0\t0\npair\t9\t0\nmark\t9\n") lent; result = written "answers\t0\n" }
    -- 4: "names or keys don't ascend": "strictly ascending unescaped", so that \01 is before Z; "each strictly ascending"
    ∷ record { call = of_canon (ascii "budget\t0\nname\ta\nname\ta\n") lent; result = refused 4 3 }
    ∷ record { call = of_canon (ascii "budget\t0\nname\tZ\nname\t\\01\n") lent; result = refused 4 3 }
    ∷ record { call = of_canon (ascii "budget\t0\nname\ta\nname\tb\nset\t1:0,0:0\t-\t0\t-\n") lent; result = refused 4 4 }
    ∷ record { call = of_canon (ascii "budget\t0\nname\ta\nname\tb\nset\t-\t-\t0\t1,1\n") lent; result = refused 4 4 }
    -- 5: "a `frozen` entry"
    ∷ record { call = of_canon (ascii "budget\t0\nprim\t0\nfrozen\nroot\t0\t+\n") lent; result = refused 5 3 }
    -- "Then 1, 2, 4, 5 on the earliest line, in that order on one line": out of order and too long; out of order and not ascending; out of
    -- order and frozen; too long and not ascending
    ∷ record { call = of_canon (ascii "budget\t0\nprim\t0\nname\t" ++ times 256 (ascii "a") ++ ascii "\n") lent; result = refused 1 3 }
    ∷ record { call = of_canon (ascii "budget\t0\nname\ta\nprim\t0\nname\ta\n") lent; result = refused 1 4 }
    ∷ record { call = of_canon (ascii "budget\t0\nmark\t0\nfrozen\n") lent; result = refused 1 3 }
    ∷ record { call = of_canon (ascii "budget\t0\nname\tb\nname\t" ++ times 256 (ascii "a") ++ ascii "\n") lent; result = refused 2 3 }
    -- the earliest line counts, not the smallest number; 3 comes after them, whatever its line
    ∷ record { call = of_canon (ascii "budget\t0\nfrozen\nprim\t32\n") lent; result = refused 5 2 }
    ∷ record { call = of_canon (ascii "budget\t0\nlist\t9\nfrozen\n") lent; result = refused 5 3 }
    -- 6: "a 97th key would be in progress", K12; "and refuse one root: its listing line is `refused`, id, sign, number, and other roots go on"
    ∷ record {
      call = of_canon (ascii "budget\t1\n" ++ nested 96 0 ++ ascii "root\t0\t-\nroot\t95\t+\n") lent;
      result = written "answers\t2\nrefused\t0\t-\t6\nroot\t95\t+\t1\t2\t0\t0\t2\n0\tprim\t0\n1\tlist\t0\n";
    }
    -- 7: "a member list (not a bound list) going into or out of a rule, or of a stored type, would pass 128": 129 bounds
    ∷ record {
      call = of_canon (ascii "budget\t1\n" ++ line_text (ascii "var" ∷ parted comma (numbers_from 1 129) ∷ ascii "-" ∷ [])
          ++ times 129 (ascii "prim\t0\n") ++ ascii "root\t0\t+\n") lent;
      result = written "answers\t1\nrefused\t0\t+\t7\n";
    }
    -- request 1 of document 02. "the variables of one root get 0, 1, 2 in the order of their first appearance, walking from the root, param before
    -- body, fields in key order": README's show that swaps two fields whose types it does not look at
    ∷ record {
      call = canon_numbered_reads (ascii "budget\t4294967295\nname\tactual\nname\tplanned\nvar\t-\t3,4\nset\t0:6,1:7\t-\t0\t-\nlist\t1\nset\t0:7,1:6\t-\t1\t0\n"
          ++ ascii "set\t0:7\t-\t1\t-\nfn\t0\t2\nvar\t-\t-\nvar\t-\t-\nroot\t5\t+\n");
      result = written
          "answers\t1\nnumbered\nroot\t5\t+\t2\t22\t0\t0\t6\n0\ttyvar\t0\n1\ttyvar\t1\n2\tset\t0:0,1:1\t-\t1\t-\n3\tset\t0:1,1:0\t-\t0\t-\n4\tlist\t3\n5\tfn\t2\t4\n";
    }
    -- "then dyn": variables 2, 1 and 0 of the set are 0, 1 and 2
    ∷ record {
      call = of_canon_numbered (ascii "budget\t4294967295\nname\ta\nname\tb\nvar\t-\t-\nvar\t-\t-\nvar\t-\t-\nset\t0:2,1:1\t0\t0\t-\nfn\t3\t1\nroot\t4\t+\n") lent;
      result = written
          "answers\t1\nnumbered\nroot\t4\t+\t2\t12\t0\t0\t5\n0\ttyvar\t0\n1\ttyvar\t1\n2\ttyvar\t2\n3\tset\t0:0,1:1\t2\t0\t-\n4\tfn\t3\t1\n";
    }
    -- each root begins with 0; "Two variables get one number exactly if they were one": the first has variable 1 twice before 0, the last has it alone
    ∷ record {
      call = of_canon_numbered (ascii "budget\t4294967295\nvar\t-\t-\nvar\t-\t-\nfn\t1\t0\nfn\t1\t2\nneg\t1\nfn\t4\t0\nfn\t1\t1\nroot\t3\t+\nroot\t5\t+\nroot\t6\t+\n") lent;
      result = accepted (ascii "answers\t3\nnumbered\nroot\t3\t+\t1\t5\t0\t0\t4\n0\ttyvar\t0\n1\ttyvar\t1\n2\tfn\t0\t1\n3\tfn\t0\t2\n"
          ++ ascii "root\t5\t+\t1\t4\t0\t0\t4\n0\ttyvar\t0\n1\tneg\t0\n2\ttyvar\t1\n3\tfn\t1\t2\nroot\t6\t+\t2\t6\t0\t0\t2\n0\ttyvar\t0\n1\tfn\t0\t0\n");
    }
    -- "A header line `numbered` follows `answers`", also with no roots; a refused root's line stays; "A root without variables keeps its nodes"
    ∷ record { call = of_canon_numbered (ascii "budget\t0\n") 19; result = written "answers\t0\nnumbered\n" }
    ∷ record { call = of_canon_numbered (ascii "budget\t0\n") 18; result = refused 12 0 }
    ∷ record {
      call = of_canon_numbered (ascii "budget\t1\n" ++ nested 96 0 ++ ascii "root\t0\t-\nroot\t95\t+\n") lent;
      result = written "answers\t2\nnumbered\nrefused\t0\t-\t6\nroot\t95\t+\t1\t2\t0\t0\t2\n0\tprim\t0\n1\tlist\t0\n";
    }
    -- recheck of numbered listings: a kept root's lines are copied, whatever its variable's number; a redone root's variables are numbered
    ∷ record {
      call = recheck_numbered_reads (two_variables "tyvar\t8\n" ++ ascii "next\n" ++ two_variables "tyvar\t7\n" ++ ascii "next\nanswers\t2\nnumbered\n"
          ++ ascii "root\t0\t+\t1\t1\t0\t0\t1\n0\ttyvar\t5\nroot\t1\t+\t1\t1\t0\t0\t1\n0\ttyvar\t5\n");
      result = accepted (ascii "kept\tredone\nanswers\t2\nnumbered\nroot\t0\t+\t1\t1\t0\t0\t1\n0\ttyvar\t5\n"
          ++ ascii "root\t1\t+\t1\t1\t0\t0\t1\n0\ttyvar\t0\n");
    }
    -- "recheck refuses a mixture of numbered and plain listings. Refusals: 11 for that mixture, at the header's line"; also where that line lacks,
    -- and with no roots; a fault of line 1 comes first
    ∷ record { call = keeping_numbered "answers\t1\nroot\t0\t+\t1\t1\t0\t0\t1\n0\tprim\t0\n" lent; result = refused 11 2 }
    ∷ record { call = keeping "answers\t1\nnumbered\nroot\t0\t+\t1\t1\t0\t0\t1\n0\tprim\t0\n" lent; result = refused 11 2 }
    ∷ record { call = keeping_numbered "answers\t1\n" lent; result = refused 11 2 }
    ∷ record { call = keeping_numbered "answers\t1\nnumbered" lent; result = refused 11 2 }
    ∷ record { call = keeping_numbered "answers\t1\nnumbered\n" lent; result = refused 11 3 }
    ∷ record { call = keeping_numbered "answers\t2\nroot\t0\t+\t1\t1\t0\t0\t1\n0\tprim\t0\n" lent; result = refused 11 1 }
    ∷ record { call = of_recheck_numbered (ascii "budget\t0\n") (ascii "budget\t0\n") (ascii "answers\t0\n") lent; result = refused 11 2 }
    ∷ record { call = of_recheck (ascii "budget\t0\n") (ascii "budget\t0\n") (ascii "answers\t0\nnumbered\n") lent; result = refused 11 2 }
    ∷ record { call = of_recheck_numbered (ascii "budget\t0\n") (ascii "budget\t0\n") (ascii "answers\t0\nnumbered\n") lent; result = written "\nanswers\t0\nnumbered\n" }
    ∷ []

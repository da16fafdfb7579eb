-- Text: decimals, escapes, lines, fields. A line is a keyword and fields, parted by tabs; its kind says what stands in each field.
-- The kinds serve the reader and the printer alike.
use Rattle.std.specs.Prelude.{Bool, true, not, ℕ, zero, suc, ◌+◌, ◌-◌, ◌*◌, ◌/◌, ◌%◌, List, [], ◌∷◌, ◌++◌, map, length, take, drop, get_or, eqb, ltb, leb}
use Rattle.cells.specs.Part.{if, eq_list, cell}
use Rattle.rules.specs.Plain.{ascii, ◌>>=◌, given, joined}
use Rattle.std.proofs.Math.Option.{Option, none, some}

abbrev pub tab : ℕ
tab = 9

abbrev pub line_feed : ℕ
line_feed = 10

abbrev pub comma : ℕ
comma = 44

abbrev pub colon : ℕ
colon = 58

-- `-` is an empty list or no dyn
abbrev pub dash : List ℕ
dash = 45 ∷ []

-- a text cut at each separator: one piece more than there are separators. got: the piece so far
abbrev pub cut : ℕ → List ℕ → List ℕ → List (List ℕ)
cut sep got [] = got ∷ []
cut sep got (b ∷ bs) = if (eqb b sep) (λ _. got ∷ cut sep [] bs) (λ _. cut sep (got ++ (b ∷ [])) bs)

unfoldable pub pieces : ℕ → List ℕ → List (List ℕ)
pieces sep l = cut sep [] l

-- the pieces put together again
abbrev pub parted : ℕ → List (List ℕ) → List ℕ
parted sep [] = []
parted sep (p ∷ []) = p
parted sep (p ∷ q ∷ ps) = p ++ (sep ∷ parted sep (q ∷ ps))

-- Numbers are decimal, at most 4,294,967,295
abbrev pub greatest : ℕ
greatest = 4294967295

-- v with one more digit
unfoldable pub digit : ℕ → ℕ → Option ℕ
digit v b =
    if (ltb b 48) (λ _. none)
    (λ _. if (ltb 57 b) (λ _. none)
    (λ _. if (ltb greatest (v * 10 + (b - 48))) (λ _. none)
    (λ _. some (v * 10 + (b - 48)))))

abbrev pub digits : ℕ → List ℕ → Option ℕ
digits v [] = some v
digits v (b ∷ bs) = do
  x ← digit v b
  digits x bs

-- no leading zero except 0 itself
unfoldable pub number : List ℕ → Option ℕ
number [] = none
number (b ∷ []) = digits 0 (b ∷ [])
number (b ∷ c ∷ bs) = if (eqb b 48) (λ _. none) (λ _. digits 0 (b ∷ c ∷ bs))

-- a number's digits; f bounds how many there are
abbrev pub decimal_by : ℕ → ℕ → List ℕ
decimal_by zero n = (48 + n) ∷ []
decimal_by (suc f) n = if (ltb n 10) (λ _. (48 + n) ∷ []) (λ _. decimal_by f (n / 10) ++ ((48 + n % 10) ∷ []))

unfoldable pub decimal : ℕ → List ℕ
decimal n = decimal_by n n

-- Lists are parted by commas; `one` reads an element, and its words stand back to back
abbrev pub elements : (List ℕ → Option (List ℕ)) → List (List ℕ) → Option (List ℕ)
elements one [] = some []
elements one (p ∷ ps) = do
  x ← one p
  xs ← elements one ps
  some (x ++ xs)

-- a list of elements of w words each: how many there are, then their words
abbrev pub counted : ℕ → Option (List ℕ) → Option (List ℕ)
counted w m = do
  xs ← m
  some (length xs / w ∷ xs)

abbrev pub list_of : ℕ → (List ℕ → Option (List ℕ)) → List ℕ → Option (List ℕ)
list_of w one f = if (eq_list f dash) (λ _. some (0 ∷ [])) (λ _. counted w (elements one (pieces comma f)))

abbrev pub single : List ℕ → Option (List ℕ)
single f = do
  n ← number f
  some (n ∷ [])

-- Set fields are `key:id`
abbrev pub keyed : List (List ℕ) → Option (List ℕ)
keyed [] = none
keyed (k ∷ []) = none
keyed (k ∷ i ∷ []) = do
  x ← number k
  y ← number i
  some (x ∷ y ∷ [])
keyed (k ∷ i ∷ j ∷ js) = none

-- the value of a lower-case hex digit; 16 of any other byte
unfoldable pub hex : ℕ → ℕ
hex b =
    if (ltb b 48) (λ _. 16)
    (λ _. if (ltb b 58) (λ _. b - 48)
    (λ _. if (ltb b 97) (λ _. 16)
    (λ _. if (ltb b 103) (λ _. b - 87) (λ _. 16))))

-- Bytes 0x00-0x1f, 0x5c and 0x7f are written as a backslash and two lower-case hex digits, no other byte is
unfoldable pub escaped : ℕ → Bool
escaped b = if (ltb b 32) (λ _. true) (λ _. if (eqb b 92) (λ _. true) (λ _. eqb b 127))

-- a byte that stands for itself
abbrev pub plain : ℕ → Option ℕ
plain b = given (not (escaped b)) b

-- the byte that two hex digits after a backslash say: only one that is written so
abbrev pub escape : ℕ → ℕ → Option ℕ
escape h l =
    if (ltb 15 (hex h)) (λ _. none)
    (λ _. if (ltb 15 (hex l)) (λ _. none)
    (λ _. given (escaped (hex h * 16 + hex l)) (hex h * 16 + hex l)))

abbrev pub put_byte : Option ℕ → Option (List ℕ) → Option (List ℕ)
put_byte byte rest = do
  x ← byte
  xs ← rest
  some (x ∷ xs)

-- the bytes of a written name; a backslash stands before two hex digits
unfoldable pub name : List ℕ → Option (List ℕ)
name [] = some []
name (b ∷ []) = put_byte (plain b) (some [])
name (b ∷ c ∷ []) = put_byte (plain b) (name (c ∷ []))
name (b ∷ c ∷ d ∷ bs) = if (eqb b 92) (λ _. put_byte (escape c d) (name bs)) (λ _. put_byte (plain b) (name (c ∷ d ∷ bs)))

-- what can stand in a field
abbrev pub a_number : ℕ
a_number = 0

-- Primitive codes 0 to 31
abbrev pub a_code : ℕ
a_code = 1

-- Open is 0 or 1
abbrev pub a_flag : ℕ
a_flag = 2

abbrev pub a_list : ℕ
a_list = 3

-- an id, or `-`
abbrev pub a_dyn : ℕ
a_dyn = 4

abbrev pub some_fields : ℕ
some_fields = 5

-- `+` or `-`
abbrev pub a_sign : ℕ
a_sign = 6

abbrev pub a_name : ℕ
a_name = 7

-- a number of at most m
abbrev pub up_to : ℕ → List ℕ → Option (List ℕ)
up_to m f = do
  n ← number f
  given (leb n m) (n ∷ [])

abbrev pub sign_of : List ℕ → Option (List ℕ)
sign_of f = if (eq_list f (ascii "+")) (λ _. some (0 ∷ [])) (λ _. given (eq_list f dash) (1 ∷ []))

abbrev pub dyn_of : List ℕ → Option (List ℕ)
dyn_of f = if (eq_list f dash) (λ _. some (0 ∷ [])) (λ _. counted 1 (single f))

-- the words that a field is read as: a number itself, + as 0 and - as 1, a list its length and its elements, a name its bytes
unfoldable pub field_of : ℕ → List ℕ → Option (List ℕ)
field_of k f =
    if (eqb k a_number) (λ _. single f)
    (λ _. if (eqb k a_code) (λ _. up_to 31 f)
    (λ _. if (eqb k a_flag) (λ _. up_to 1 f)
    (λ _. if (eqb k a_list) (λ _. list_of 1 single f)
    (λ _. if (eqb k a_dyn) (λ _. dyn_of f)
    (λ _. if (eqb k some_fields) (λ _. list_of 2 (λ (p : List ℕ). keyed (pieces colon p)) f)
    (λ _. if (eqb k a_sign) (λ _. sign_of f)
    (λ _. if (eqb k a_name) (λ _. name f)
    (λ _. none))))))))

-- as many fields as the shape says, each as it says
abbrev pub by_shape : List ℕ → List (List ℕ) → Option (List ℕ)
by_shape [] [] = some []
by_shape [] (p ∷ ps) = none
by_shape (k ∷ ks) [] = none
by_shape (k ∷ ks) (p ∷ ps) = do
  x ← field_of k p
  xs ← by_shape ks ps
  some (x ++ xs)

-- a kind of line: its keyword, the section of a table that it belongs to, and what stands in each field
pub record Kind : Type 0 where
  pub word : List ℕ
  pub section : ℕ
  pub shape : List ℕ

abbrev pub tagged : ℕ → Option (List ℕ) → Option (List ℕ)
tagged n m = do
  xs ← m
  some (n ∷ xs)

-- the row of a line with keyword w: the number of its kind, counted from n, then the words of its fields
abbrev pub record_in : List Kind → ℕ → List ℕ → List (List ℕ) → Option (List ℕ)
record_in [] n w fs = none
record_in (k ∷ ks) n w fs = if (eq_list w k.word) (λ _. tagged n (by_shape k.shape fs)) (λ _. record_in ks (suc n) w fs)

abbrev pub by_word : List Kind → List (List ℕ) → Option (List ℕ)
by_word ks [] = none
by_word ks (w ∷ fs) = record_in ks 0 w fs

unfoldable pub row_of : List Kind → List ℕ → Option (List ℕ)
row_of ks l = by_word ks (pieces tab l)

-- the printer: how many words a field takes, and how it is written
abbrev pub words_of : ℕ → List ℕ → ℕ
words_of k ws =
    if (eqb k a_list) (λ _. 1 + cell ws 0)
    (λ _. if (eqb k a_dyn) (λ _. 1 + cell ws 0)
    (λ _. if (eqb k some_fields) (λ _. 1 + 2 * cell ws 0)
    (λ _. if (eqb k a_name) (λ _. length ws)
    (λ _. 1))))

abbrev pub list_text : List (List ℕ) → List ℕ
list_text [] = dash
list_text (p ∷ ps) = parted comma (p ∷ ps)

abbrev pub keyed_text : List ℕ → List (List ℕ)
keyed_text [] = []
keyed_text (k ∷ []) = []
keyed_text (k ∷ i ∷ ws) = (decimal k ++ (colon ∷ decimal i)) ∷ keyed_text ws

abbrev pub hex_digit : ℕ → ℕ
hex_digit h = if (ltb h 10) (λ _. 48 + h) (λ _. 87 + h)

abbrev pub char_text : ℕ → List ℕ
char_text b = if (escaped b) (λ _. 92 ∷ hex_digit (b / 16) ∷ hex_digit (b % 16) ∷ []) (λ _. b ∷ [])

unfoldable pub field_text : ℕ → List ℕ → List ℕ
field_text k ws =
    if (eqb k a_list) (λ _. list_text (map decimal (drop 1 ws)))
    (λ _. if (eqb k a_dyn) (λ _. list_text (map decimal (drop 1 ws)))
    (λ _. if (eqb k some_fields) (λ _. list_text (keyed_text (drop 1 ws)))
    (λ _. if (eqb k a_sign) (λ _. if (eqb (cell ws 0) 0) (λ _. ascii "+") (λ _. dash))
    (λ _. if (eqb k a_name) (λ _. joined (map char_text ws))
    (λ _. decimal (cell ws 0))))))

abbrev pub shape_texts : List ℕ → List ℕ → List (List ℕ)
shape_texts [] ws = []
shape_texts (k ∷ ks) ws = field_text k (take (words_of k ws) ws) ∷ shape_texts ks (drop (words_of k ws) ws)

abbrev pub no_kind : Kind
no_kind = record { word = []; section = 0; shape = [] }

abbrev pub kind_text : Kind → List ℕ → List (List ℕ)
kind_text k ws = k.word ∷ shape_texts k.shape ws

-- keyword and fields of a row
unfoldable pub row_texts : List Kind → List ℕ → List (List ℕ)
row_texts ks row = kind_text (get_or ks (cell row 0) no_kind) (drop 1 row)

-- a line of fields parted by tabs, ended by a line feed
abbrev pub line_text : List (List ℕ) → List ℕ
line_text fs = parted tab fs ++ (line_feed ∷ [])

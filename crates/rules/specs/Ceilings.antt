-- "Ceilings: text 65,536 bytes; names 1,024 of at most 255 bytes unescaped; n 2,048; ids and keys in entries, optional keys too,
-- 8,192; pairs 2,048; marks 512; roots 64." And the limits of a run.
use Rattle.std.specs.Prelude.{ℕ}

abbrev pub most_text : ℕ
most_text = 65536

abbrev pub most_names : ℕ
most_names = 1024

abbrev pub longest_name : ℕ
longest_name = 255

abbrev pub most_entries : ℕ
most_entries = 2048

abbrev pub most_ids : ℕ
most_ids = 8192

abbrev pub most_pairs : ℕ
most_pairs = 2048

abbrev pub most_marks : ℕ
most_marks = 512

abbrev pub most_roots : ℕ
most_roots = 64

-- 6: a 97th key would be in progress
abbrev pub most_keys : ℕ
most_keys = 96

-- 7: a member list would pass 128
abbrev pub most_members : ℕ
most_members = 128

-- 8: a 4,097th distinct node would be stored in a pass
abbrev pub most_nodes : ℕ
most_nodes = 4096

-- 9: node cells in a pass would pass 16,384
abbrev pub most_cells : ℕ
most_cells = 16384

-- a pass counts its operations up to here, so that the count of both is a number of the listing
abbrev pub most_operations : ℕ
most_operations = 2147483647

-- Paths of fields, as `ram`, `module[2]` or `module[2].name`, as bytes.
use Rattle.std.specs.Prelude.{ℕ, ◌==◌, if◌then◌else◌, List, ◌++◌, length, codes, decimal}

-- the path of an entry of a list
abbrev pub entry_path : List ℕ → ℕ → List ℕ
entry_path key i = key ++ codes "[" ++ decimal i ++ codes "]"

-- the path of a key in the table of a path; the whole file's is empty
abbrev pub key_path : List ℕ → List ℕ → List ℕ
key_path path key = if length path == 0 then key else path ++ codes "." ++ key

-- What is printed of a refusal: its name, then its number in decimal, then its word, where it has
-- them.
use Rattle.std.specs.Prelude.{ℕ, List, Option, Some, None, codes}
use Rattle.module_preamble.specs.declared.refusal.PreErr.{PreErr}
use Rattle.module_preamble.specs.declared.refusal.PreErr.TheVariants.{Short, BadId, BadMajor}
use Rattle.module_preamble.specs.declared.refusal.PreErr.TheVariants.{BadSize, BadProps, BadCode}
use Rattle.module_preamble.specs.declared.refusal.PreErr.TheVariants.{BadData, BadEntry, BadPrio}
use Rattle.module_preamble.specs.declared.refusal.PreErr.TheVariants.{BadStack}

-- the name of the rule that is broken
abbrev pub name_of : PreErr → List ℕ
name_of (Short _) = codes "Short"
name_of (BadId _) = codes "BadId"
name_of (BadMajor _) = codes "BadMajor"
name_of (BadSize _) = codes "BadSize"
name_of (BadProps _) = codes "BadProps"
name_of (BadCode _) = codes "BadCode"
name_of (BadData _) = codes "BadData"
name_of (BadEntry _ _) = codes "BadEntry"
name_of (BadPrio _ _) = codes "BadPrio"
name_of (BadStack _ _) = codes "BadStack"

-- the length of a short image, or which of its words breaks a rule that is about several
abbrev pub number_of : PreErr → Option ℕ
number_of (Short len) = Some len
number_of (BadEntry which _) = Some which
number_of (BadPrio which _) = Some which
number_of (BadStack which _) = Some which
number_of _ = None

-- the word that breaks the rule
abbrev pub word_of : PreErr → Option ℕ
word_of (Short _) = None
word_of (BadId w) = Some w
word_of (BadMajor w) = Some w
word_of (BadSize w) = Some w
word_of (BadProps w) = Some w
word_of (BadCode w) = Some w
word_of (BadData w) = Some w
word_of (BadEntry _ w) = Some w
word_of (BadPrio _ w) = Some w
word_of (BadStack _ w) = Some w

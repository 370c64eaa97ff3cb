-- What a call leaves of the table of counts.
use Rattle.std.proofs.Common.{ℕ, ◌<◌, ◌^◌, List, length, length-set, ⊎_elim, ap, ◌∙◌, arith}
use Rattle.std.proofs.lemmas.Bool.{cases_lt}
use Rattle.std.proofs.lemmas.List.{get_or-set_same, get_or-set_other, get_or_past, set_past, length-replicate}
use Rattle.std.proofs.lemmas.List.Elements.{All-set, All-replicate}
use Rattle.sync_objects.specs.Laws.{SetsKeepTheCounts, RemovesKeepTheCounts, SetsSpareOthers, RemovesSpareOthers, CountIsSet, CountIsGone}
use Rattle.sync_objects.specs.Semas.{IsSemaTable, no_semas, count_of}

pub new_is_table : IsSemaTable no_semas
new_is_table = record {
  size = length-replicate {A = ℕ} 256 0;
  each = All-replicate (λ (n : ℕ). n < 2 ^ 32) 256 0 (omega arith);
}

pub sets_keep : SetsKeepTheCounts
sets_keep t o n table low = record {
  size = length-set t o n ∙ table.size;
  each = All-set (λ (m : ℕ). m < 2 ^ 32) t o n low table.each;
}

pub removes_keep : RemovesKeepTheCounts
removes_keep t o table = sets_keep t o 0 table (omega arith)

pub sets_spare_others : SetsSpareOthers
sets_spare_others t p n o other = get_or-set_other t p o n 0 other

pub removes_spare_others : RemovesSpareOthers
removes_spare_others t p o other = sets_spare_others t p 0 o other

pub count_is_set : CountIsSet
count_is_set t o n inside = get_or-set_same t o n 0 inside

pub count_is_gone : CountIsGone
count_is_gone t o =
    ⊎_elim (λ inside. count_is_set t o 0 inside)
    (λ past. ap (λ (u : List ℕ). count_of u o) (set_past t o 0 past) ∙ get_or_past t o 0 past)
    (cases_lt o (length t))

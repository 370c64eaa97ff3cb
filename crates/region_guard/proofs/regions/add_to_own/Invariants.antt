use Rattle.std.proofs.Common.{ℕ, ◌≡◌, ◌<◌, ◌≤◌, [], length}
use Rattle.std.specs.List.{slice_index_or}
use Rattle.region_guard.specs.Regions.{added}
use Rattle.region_guard.proofs.regions.add_to_own.Given as goal

-- the lists before m have been looked at, and those from m on are as they were
abbrev pub invariant-loop-m : goal.invariant-loop-m
invariant-loop-m l =
    (length l.own ≡ 16)
    × ((j : ℕ) → j < l.m → slice_index_or l.own j [] ≡ added j l.r (slice_index_or l.initial.own j []))
    × ((j : ℕ) → l.m ≤ j → slice_index_or l.own j [] ≡ slice_index_or l.initial.own j [])

-- What contracts see of a lane and its passes.
use Rattle.std.specs.Prelude.{ℕ, Bool, List}
use Rattle.atomic_table.specs.Seated.{TableId}
use Rattle.event_log.specs.declared.entry.Entry.{Entry}

-- which lane it is, and how many entries it has room for
pub record LaneSeen : Type 0 where
  pub id : TableId
  pub most : ℕ

-- the pass that puts: of which lane it is, and the entries that were put with it, in order
pub record PassSeen : Type 0 where
  pub lane : TableId
  pub entries : List Entry

-- the pass that gets: whether it is of a lane, and of which, and the entries that were got with it,
-- in order
pub record GetSeen : Type 0 where
  pub live : Bool
  pub lane : TableId
  pub entries : List Entry

-- What a session that nobody picked stands for: nothing.
use Rattle.std.specs.Prelude.{[]}
use Rattle.board_core.specs.Run.{Origin}
use Rattle.log_lane.specs.Getter.{no_table}
use Rattle.log_lane.specs.Seen.{LaneSeen}

-- a board without modules and devices
abbrev pub no_origin : Origin
no_origin = record {
  board = record { ram = 0; steps = 0; modules = []; shares = []; devices = []; shows = [] };
  images = [];
}

-- no lane
abbrev pub no_lane : LaneSeen
no_lane = record { id = no_table; most = 0 }

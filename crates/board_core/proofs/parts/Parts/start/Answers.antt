use Rattle.board_core.proofs.ModuleRegions.{own_data}
use Rattle.board_core.proofs.Starting.{AreStarted, after_start, some_data}
use Rattle.board_core.proofs.parts.Parts.start.Goals as goal
use Rattle.board_core.proofs.parts.Parts.start.Goals.{After-start}

pub start-requires-clause-some_data : goal.start-requires-clause-some_data
start-requires-clause-some_data c =
    let p = c.args.self.now in some_data p.memory p.modules c.args.i c.requires.laid c.requires.row

pub start-requires-clause-own_data : goal.start-requires-clause-own_data
start-requires-clause-own_data c =
    let p = c.args.self.now in own_data p.memory p.modules c.args.i c.requires.laid.regions c.requires.row

started : (c : After-start) → AreStarted c.args.self.now.memory c.args.self.now.modules c.start.new.g c.start.new.self
started c =
    let p = c.args.self.now in
    let laws = c.a_write_changes_its_range_alone.ensures in
    after_start laws.length_stays laws.others_stay c.a_write_changes_its_bytes_alone.ensures.soundness_stays
    c.a_start_writes_its_data_region_alone.ensures.beginning p.modules c.start.new.self p.kernel p.memory
    c.start.new.g c.args.i c.requires.laid c.requires.row c.start.ensures.memory c.start.ensures.modules

pub returns-clause-laid : goal.returns-clause-laid
returns-clause-laid c = (started (goal.at.returns-clause-laid c).After-start).laid

pub returns-clause-count : goal.returns-clause-count
returns-clause-count c = (started (goal.at.returns-clause-count c).After-start).count

pub returns-clause-images : goal.returns-clause-images
returns-clause-images c = (started (goal.at.returns-clause-images c).After-start).images

use Rattle.std.proofs.Common.{◌≡◌, Ok, All, length, ap, subst, sym, ◌∙◌}
use Rattle.std.proofs.lemmas.List.{length-map}
use Rattle.module_loader.specs.Want.{HasSizes}
use Rattle.board_core.specs.Boot.{contents, places, places_in}
use Rattle.board_core.proofs.Laid.{have_sizes}
use Rattle.board_core.proofs.PlacedBoard.{are_loaded}
use Rattle.board_core.proofs.placing.place_modules.Goals as goal

pub places-requires-clause-sizes : goal.places-requires-clause-sizes
places-requires-clause-sizes c =
    let read = c.in_ok-preambles.ensures in
    subst (λ ps. All HasSizes ps) (sym (c.deref.ensures.value ∙ read.words)) (have_sizes (contents c.args.images.now) read.accepted)

pub returns-clause-loaded : goal.returns-clause-loaded
returns-clause-loaded c =
    let b = c.args.board.now in
    let images = contents c.args.images.now in
    let read = c.in_ok-preambles.ensures in
    let laws = c.a_write_changes_its_range_alone.ensures in
    let due : places b images ≡ Ok c.in_ok-places.places.items =
    ap (places_in b.ram) (sym (c.deref.ensures.value ∙ read.words)) ∙ c.in_ok-places.ensures.placed in
    let many : length images ≡ length b.modules = length-map c.args.images.now (λ v. v.items) ∙ c.requires.images in
    are_loaded laws.length_stays laws.others_stay laws.range_is_written c.what_is_placed_lies_apart.ensures.placed b images
    c.in_ok-places.places.items c.requires.board many read.accepted due

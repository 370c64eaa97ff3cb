use Rattle.std.proofs.Common.{◌≡◌, ◌<◌, [], length, ap, subst, sym, ◌∙◌, arith}
use Rattle.module_loader.specs.Image.{IsInRam, loaded as loaded_at}
use Rattle.module_loader.specs.declared.placement.Placed.{Placed}
use Rattle.module_preamble.specs.Words.{words_of}
use Rattle.module_preamble.specs.declared.words.Preamble.{Preamble}
use Rattle.board_core.specs.Boot.{contents, with_images}
use Rattle.module_manager.specs.Modules.{loaded}
use Rattle.std.proofs.Common.{map, drop, ◌+◌, get_or}
use Rattle.board_core.proofs.LoadingSteps.{as_many, image_fits, images_more}
use Rattle.board_core.proofs.loading.ram_with.Goals as goal

abbrev blank : Preamble × Placed
blank = (words_of [], record { code_base = 0; data_base = 0 })

pub load-requires : goal.load-requires
load-requires c =
    let vs = c.args.images.now in
    let rows = c.args.rows.now in
    let i = c.loop-i.i in
    let v = c.index-images-i.result in
    let at = (get_or rows i blank).1.code_base in
    subst (λ bytes. IsInRam c.loop-i.ram at (length bytes)) (sym c.deref.ensures.value)
    (image_fits c.a_write_changes_its_range_alone.ensures.length_stays c.args.size vs rows c.loop-i.ram i v blank c.requires.laid c.requires.images
    c.loop-i.invariant.size c.loop-i-test.true c.index-images-i.is)

pub loop-i-preserved : goal.loop-i-preserved
loop-i-preserved c =
    let vs = c.args.images.now in
    let rows = c.args.rows.now in
    let i = c.loop-i.i in
    let v = c.index-images-i.result in
    let at = (get_or rows i blank).1.code_base in
    let many = as_many vs rows c.requires.images in
    let row_below : i < length rows = omega arith in
    let loaded_now : c.load.new.ram ≡ loaded_at c.loop-i.ram v.items at =
    c.load.ensures.image ∙ ap (λ bytes. loaded_at c.loop-i.ram bytes at) c.deref.ensures.value in
    let more = images_more c.loop-i.ram vs rows i v blank c.loop-i-test.true c.index-images-i.is row_below in
    record {
      due = ap (λ ram. with_images ram (contents (drop (i + 1) vs)) (map loaded (drop (i + 1) rows))) loaded_now ∙ (sym more ∙ c.loop-i.invariant.due);
      size = c.load.ensures.size ∙ c.loop-i.invariant.size;
    }

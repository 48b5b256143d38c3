use Rattle.std.proofs.Common.{get_or, set, refl, ap, ◌∙◌, arith, length-set}
use Rattle.std.proofs.lemmas.List.{map-set, get_or-set_other}
use Rattle.agenda.specs.Cells.{slots_of}
use Rattle.agenda.specs.declared.cells.Cell.{Cell}
use Rattle.agenda.proofs.Parts.{map_set_same}
use Rattle.agenda.proofs.cells.put.Goals as goal

pub returns : goal.returns
returns g c =
    let cells = c.args.cells.now in
    let i = c.args.i in
    let k = c.slot_index-k.result in
    let first : Cell g.row.E.Denot = record { entry = c.args.e; slot = (get_or cells i c.index-cells-i.result).slot } in
    let mid = set cells i first in
    let last : Cell g.row.E.Denot = record { entry = (get_or mid k c.index-cells-k.result).entry; slot = i } in
    record {
      entries = map_set_same (λ x. x.entry) mid k last c.index-cells-k.result (omega (arith, length-set cells i first)) refl ∙ map-set (λ x. x.entry) cells i first;
      slots = map-set (λ x. x.slot) mid k last
          ∙ ap (λ l. set l k i) (map_set_same (λ x. x.slot) cells i first c.index-cells-i.result (omega arith) refl)
          ∙ ap (λ n. set (slots_of cells) n i) c.slot_index-k.ensures;
      elsewhere = λ j d not_i not_k. get_or-set_other mid k j last d (λ e. not_k (e ∙ c.slot_index-k.ensures)) ∙ get_or-set_other cells i j first d not_i;
    }

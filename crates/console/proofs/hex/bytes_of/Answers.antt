use Rattle.std.proofs.Common.{vec_items, sym, ap, ◌∙◌}
use Rattle.console.specs.Hex.{bytes_of}
use Rattle.console.proofs.Spelling.{behind, behind_more, next_more}
use Rattle.console.proofs.hex.bytes_of.Goals as goal

pub loop-rest-preserved : goal.loop-rest-preserved
loop-rest-preserved c =
    let rest = c.loop-rest.rest.now in
    let after = c.in-Some.after.now in
    let items = vec_items c.loop-rest.bytes in
    ap (λ xs. behind xs (bytes_of after)) c.in_ok-push.ensures.items
    ∙ sym (behind_more items c.in-Some.byte (bytes_of after))
    ∙ ap (behind items) (sym (next_more rest after c.in-Some.byte c.in-Some.ensures))
    ∙ c.loop-rest.invariant

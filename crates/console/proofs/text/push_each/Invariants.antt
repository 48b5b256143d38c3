use Rattle.std.proofs.Common.{◌≡◌, ◌++◌, drop, string_bytes}
use Rattle.console.specs.Lists.{Appends}
use Rattle.console.specs.Texts.{listed}
use Rattle.console.proofs.text.push_each.Given as goal

-- what is printed, in front of what is to come
abbrev pub invariant-loop-i : goal.invariant-loop-i
invariant-loop-i g l =
    (spell : _) → Appends (goal.F-post g l.fn.push) spell
    → string_bytes l.out ++ listed spell l.i (drop l.i l.entries) ≡ string_bytes l.initial.out ++ listed spell 0 l.entries

use Rattle.std.proofs.Common.{◌≡◌, ◌-◌, ◌++◌}
use Rattle.std.specs.Prelude.{string_bytes}
use Rattle.vr_generator.specs.Generator.{call_lines}
use Rattle.vr_generator.proofs.generator.write_calls.Given as goal

abbrev pub invariant-loop : goal.invariant-loop
invariant-loop l =
    string_bytes l.text ++ call_lines (l.count - l.counter) l.state ≡ string_bytes l.initial.text ++ call_lines l.count l.fn.state

-- `why::ask_turns` meets its contract. Assumes nothing.
use Prim.Native.Nat.{◌+◌, ◌%◌}
use Rattle.source.specs.Source.{vertices_of}
use Rattle.sheet.specs.InnerSteps.{routed}
use Rattle.why.specs.InnerSteps.{asked, asks}
use Rattle.why.proofs.Turns.{Asks}
use Rattle.why.proofs.ask_turns.Given as goal

abbrev pub invariant-loop-turn : goal.invariant-loop-turn
invariant-loop-turn l =
    let vs = vertices_of l.source in
    Asks l.closed l.settings l.segment.0 vs l.v l.turns (asks l.closed l.settings l.segment.0 (routed l.v l.turns l.from vs) (asked l.initial.asking)) l.turn ((l.from + l.turn) % l.v) l.asking

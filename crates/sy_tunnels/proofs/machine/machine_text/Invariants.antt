use Rattle.std.proofs.Common.{◌≡◌, ◌∷◌, ℕ, List, map, take}
use Rattle.std.specs.List.{join_with_byte}
use Rattle.sy_tunnels.specs.Lines as lines
use Rattle.sy_tunnels.specs.Tunnels as spec
use Rattle.sy_tunnels.proofs.machine.machine_text.Given as goal

-- the lines so far, with line feeds between them
abbrev pub invariant-loop-line : goal.invariant-loop-line
invariant-loop-line l =
    (first : List ℕ) × (lines.lines_of l.fn.text ≡ first ∷ map (λ line. line.now) l.later)
    × (l.machine.items
    ≡ join_with_byte lines.line_feed (map spec.machine_line (first ∷ map (λ line. line.now) (take l.line-index l.later))))

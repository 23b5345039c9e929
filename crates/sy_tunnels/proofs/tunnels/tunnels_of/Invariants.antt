use Rattle.std.proofs.Common.{◌≡◌, map, take}
use Rattle.sy_tunnels.specs.Lines.{lines_of as raw_lines, words_of as words}
use Rattle.sy_tunnels.specs.Tunnels as spec
use Rattle.sy_tunnels.proofs.tunnels.tunnels_of.Given as goal

-- what the lines so far say
abbrev pub invariant-loop-at : goal.invariant-loop-at
invariant-loop-at l =
    (map (λ line. line.now) l.lines.items ≡ raw_lines l.fn.text)
    × spec.AreTunnels l.site (map words (map (λ line. line.now) (take l.at l.lines.items))) l.tunnels.items

-- Bytes that frames name.
use Rattle.std.specs.Prelude.{ℕ}

abbrev pub space : ℕ
space = 32

-- the byte that ends a frame
abbrev pub line_feed : ℕ
line_feed = 10

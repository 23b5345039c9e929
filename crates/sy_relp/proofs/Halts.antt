-- Why no frame is at the front, by the part that isn't there.
use Rattle.std.proofs.Common.{◌≡◌, ℕ, ◌≤◌, List, ◌∷◌, ◌++◌, sym, ap, ◌∙◌, arith}
use Rattle.std.specs.Fmt.{decimal}
use Rattle.sy_relp.specs.Faults.{HasHead, length_end}
use Rattle.sy_relp.specs.declared.fault.FrameFault.TheVariants.{BadNumber, BadCommand, BadLength, TooLong, BadTrailer, Truncated, NoMemory, Failed}
use Rattle.sy_relp.specs.declared.parts.Halt.{Halt}
use Rattle.sy_relp.specs.declared.parts.Halt.TheVariants.{Short, Bad}
use Rattle.sy_relp.specs.internal.Parts.{CommandHalts, ContentHalts, FrameHalts, LengthHalts, TxnrHalts}
use Rattle.sy_relp.proofs.Goings.{by_command, by_content, by_length, by_txnr}
use Rattle.sy_relp.proofs.Whole.{end_of_some}

pub at_txnr : (halt : Halt) (bytes : List ℕ) → TxnrHalts halt bytes → FrameHalts halt bytes
at_txnr Short bytes g = by_txnr bytes g.1 g.0 g.2 g.3 g.4
at_txnr (Bad BadNumber) bytes bad = bad
at_txnr (Bad BadCommand) bytes bad = absurd bad
at_txnr (Bad BadLength) bytes bad = absurd bad
at_txnr (Bad TooLong) bytes bad = absurd bad
at_txnr (Bad BadTrailer) bytes bad = absurd bad
at_txnr (Bad Truncated) bytes bad = absurd bad
at_txnr (Bad NoMemory) bytes bad = absurd bad
at_txnr (Bad Failed) bytes bad = absurd bad

pub at_command : (halt : Halt) (bytes r1 : List ℕ) (n : ℕ) → bytes ≡ decimal n ++ 32 ∷ r1 → n ≤ 999999999 → CommandHalts halt r1 → FrameHalts halt bytes
at_command Short bytes r1 n is most g = by_command bytes r1 g.1 g.0 n is most g.2 g.3 g.4
at_command (Bad BadNumber) bytes r1 n is most bad = absurd bad
at_command (Bad BadCommand) bytes r1 n is most bad = (n, r1, most, is, bad)
at_command (Bad BadLength) bytes r1 n is most bad = absurd bad
at_command (Bad TooLong) bytes r1 n is most bad = absurd bad
at_command (Bad BadTrailer) bytes r1 n is most bad = absurd bad
at_command (Bad Truncated) bytes r1 n is most bad = absurd bad
at_command (Bad NoMemory) bytes r1 n is most bad = absurd bad
at_command (Bad Failed) bytes r1 n is most bad = absurd bad

pub at_length : (halt : Halt) (bytes rest : List ℕ) → HasHead bytes rest → LengthHalts halt rest → FrameHalts halt bytes
at_length Short bytes rest h g = by_length bytes rest g.1 g.0 h g.2 g.3 g.4
at_length (Bad BadNumber) bytes rest h bad = absurd bad
at_length (Bad BadCommand) bytes rest h bad = absurd bad
at_length (Bad BadLength) bytes rest h bad = (rest, h, bad.0, bad.1)
at_length (Bad TooLong) bytes rest h bad = (rest, h, bad)
at_length (Bad BadTrailer) bytes rest h bad = absurd bad
at_length (Bad Truncated) bytes rest h bad = absurd bad
at_length (Bad NoMemory) bytes rest h bad = absurd bad
at_length (Bad Failed) bytes rest h bad = absurd bad

pub at_content : (halt : Halt) (bytes rest r3 : List ℕ) (len : ℕ) → HasHead bytes rest → rest ≡ decimal len ++ length_end len ∷ r3 → len ≤ 65536 → ContentHalts halt len r3 → FrameHalts halt bytes
at_content Short bytes rest r3 len h is fits g = by_content bytes rest r3 g.1 g.0 len h is fits g.2 g.3 g.4 g.5
at_content (Bad BadNumber) bytes rest r3 len h is fits bad = absurd bad
at_content (Bad BadCommand) bytes rest r3 len h is fits bad = absurd bad
at_content (Bad BadLength) bytes rest r3 len h is fits bad = absurd bad
at_content (Bad TooLong) bytes rest r3 len h is fits bad = absurd bad
at_content (Bad BadTrailer) bytes rest r3 len h is fits bad = (
  rest,
  bad.0,
  bad.1,
  bad.2,
  h,
  omega (arith, bad.3, bad.4),
  omega (arith, bad.3, fits),
  is ∙ ap (λ b. decimal len ++ b ∷ r3) (end_of_some len bad.4) ∙ ap (λ z. decimal len ++ 32 ∷ z) bad.5 ∙ ap (λ n. decimal n ++ 32 ∷ (bad.0 ++ bad.2 ∷ bad.1)) (sym bad.3),
  bad.6,
)
at_content (Bad Truncated) bytes rest r3 len h is fits bad = absurd bad
at_content (Bad NoMemory) bytes rest r3 len h is fits bad = absurd bad
at_content (Bad Failed) bytes rest r3 len h is fits bad = absurd bad

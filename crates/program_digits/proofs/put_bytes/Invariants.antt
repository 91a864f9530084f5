-- `put_bytes` meets its contract: the bytes so far are put. Assumes nothing.
use lib.ListN.{take}
use Rattle.program_digits.specs.Digits.{Puts}
use Rattle.program_digits.proofs.put_bytes.Given as goal

abbrev pub invariant-loop-byte : goal.invariant-loop-byte
invariant-loop-byte l = Puts l.initial.text l.text l.at l.next (take l.byte-index l.piece)

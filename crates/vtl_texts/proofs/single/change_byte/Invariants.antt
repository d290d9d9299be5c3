use Rattle.std.proofs.Common.{◌≡◌, ◌++◌, map, take, drop}
use Rattle.vtl_texts.proofs.Bytes.{changed}
use Rattle.vtl_texts.proofs.single.change_byte.Given as goal

-- the bytes behind the index are as they were
abbrev pub invariant-loop-b : goal.invariant-loop-b
invariant-loop-b l = l.bytes ≡ map (changed l.old l.new) (take l.b-index l.fn.bytes) ++ drop l.b-index l.fn.bytes

use Rattle.std.proofs.Common.{refl, inl, inr}
use Rattle.keeper_sqlite.proofs.link.Link.keep_or_owe.Goals as goal

pub returns-then-is_open : goal.returns-then-is_open
returns-then-is_open g c = (c.is_open.new.conn, c.is_open.ensures.inside, inl (refl, c.clear.ensures.items, λ clean. (c.is_open.ensures.open clean c.if-is_open.true).0.is_open))

pub returns : goal.returns
returns g c = (c.is_open.new.conn, c.is_open.ensures.inside, inr (refl, c.reverse.ensures.items))

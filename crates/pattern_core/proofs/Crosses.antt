-- A compiled pattern may go to another thread, and be shared with one.
use denote.Param.Send.{IsSend, IsSync, sendable}
use denote.Param.SendFields.{declared_send, declared_sync}
use Rattle.std.proofs.Crossing.{crosses, Vec-send, Vec-sync}
use Rattle.regex_hir.proofs.hir.Hir.TheLaws.TheKnot as trees
use Rattle.regex_hir.specs.contracts.hir.Hir as Hir
use Rattle.regex.below.regex_literal.proofs.caseless.Caseless.TheSendSync as caseless
use Rattle.regex.below.regex_literal.proofs.prefilter.Prefilter.TheSendSync as prefilter
use Rattle.regex_meta.specs.contracts.plan.Plans as Plans
use Rattle.regex.specs.contracts.string.regex.Regex as Regex
use Rattle.regex.specs.contracts.pattern.Pattern as Pattern
use Rattle.regex_meta.specs.contracts.program.Program as Program
use Rattle.regex_meta.specs.contracts.signs.Signs as Signs

hir_send : IsSend Hir.the_row
hir_send = search (crosses, trees.crosses_both, sendable) depth 60 fits 20000

hir_sync : IsSync Hir.the_row
hir_sync = search (crosses, trees.crosses_both, sendable) depth 60 fits 20000

plans_send : IsSend Plans.the_row
plans_send = search (prefilter.the_send, trees.crosses, hir_send, crosses, sendable) depth 60 fits 20000

signs_send : IsSend Signs.the_row
signs_send = declared_send Signs.the_type (caseless.the_send, (search (crosses, sendable) depth 60 fits 20000, (Vec-send _ hir_send, (Vec-send _ hir_send, (search (crosses, sendable) depth 60 fits 20000, tt)))))

plans_sync : IsSync Plans.the_row
plans_sync = search (prefilter.the_sync, trees.crosses, hir_sync, crosses, sendable) depth 60 fits 20000

signs_sync : IsSync Signs.the_row
signs_sync = declared_sync Signs.the_type (caseless.the_sync, (search (crosses, sendable) depth 60 fits 20000, (Vec-sync _ hir_sync, (Vec-sync _ hir_sync, (search (crosses, sendable) depth 60 fits 20000, tt)))))

program_send : IsSend Program.the_row
program_send = declared_send Program.the_type (hir_send, (search (crosses, sendable) depth 60 fits 20000, (plans_send, (search (crosses, signs_send, sendable) depth 60 fits 20000, (search (crosses, sendable) depth 60 fits 20000, (search sendable, (search sendable, (search sendable depth 20, tt))))))))

program_sync : IsSync Program.the_row
program_sync = declared_sync Program.the_type (hir_sync, (search (crosses, sendable) depth 60 fits 20000, (plans_sync, (search (crosses, signs_sync, sendable) depth 60 fits 20000, (search (crosses, sendable) depth 60 fits 20000, (search sendable, (search sendable, (search sendable depth 20, tt))))))))

pattern_send : IsSend Pattern.the_row
pattern_send = declared_send Pattern.the_type (search (crosses, sendable) depth 60 fits 20000, (search (crosses, sendable) depth 60 fits 20000, (search (crosses, sendable) depth 60 fits 20000, (program_send, tt))))

pattern_sync : IsSync Pattern.the_row
pattern_sync = declared_sync Pattern.the_type (search (crosses, sendable) depth 60 fits 20000, (search (crosses, sendable) depth 60 fits 20000, (search (crosses, sendable) depth 60 fits 20000, (program_sync, tt))))

pub regex_send : IsSend Regex.the_row
regex_send = declared_send Regex.the_type (pattern_send, tt)

pub regex_sync : IsSync Regex.the_row
regex_sync = declared_sync Regex.the_type (pattern_sync, tt)

-- A schema's node may go to another thread, and be shared with one.
use denote.Builtin.{usize}
use denote.Param.Send.{IsSend, IsSync, sendable}
use denote.Param.SendFields.{declared_send, declared_sync, variants_send, variants_sync}
use Rattle.std.proofs.Crossing.{crosses, Vec-send, Vec-sync}
use Rattle.schema_keywords.proofs.Sent.{test_send, test_sync}
use Rattle.schema_rules.proofs.rule.Names.TheSendSync as names
use Rattle.schema_rules.proofs.rule.Others.TheSendSync as others
use Rattle.schema_rules.specs.contracts.rule.Node as Node
use Rattle.schema_rules.specs.contracts.rule.Rule as Rule

rule_send : IsSend Rule.the_row
rule_send =
    let one : IsSend usize = search sendable in let many = Vec-send usize one in
    variants_send Rule.enum ((test_send, tt), ((search (crosses, sendable) depth 20, tt), ((names.the_send, (others.the_send, tt)), ((one, tt), ((many, tt), ((one, (others.the_send, tt)), ((many, tt), ((many, tt), ((many, tt), ((one, tt), ((search (crosses, sendable) depth 20, tt), ((one, tt), tt))))))))))))

rule_sync : IsSync Rule.the_row
rule_sync =
    let one : IsSync usize = search sendable in let many = Vec-sync usize one in
    variants_sync Rule.enum ((test_sync, tt), ((search (crosses, sendable) depth 20, tt), ((names.the_sync, (others.the_sync, tt)), ((one, tt), ((many, tt), ((one, (others.the_sync, tt)), ((many, tt), ((many, tt), ((many, tt), ((one, tt), ((search (crosses, sendable) depth 20, tt), ((one, tt), tt))))))))))))

pub node_send : IsSend Node.the_row
node_send = declared_send Node.the_type (Vec-send _ rule_send, (search sendable, tt))

pub node_sync : IsSync Node.the_row
node_sync = declared_sync Node.the_type (Vec-sync _ rule_sync, (search sendable, tt))

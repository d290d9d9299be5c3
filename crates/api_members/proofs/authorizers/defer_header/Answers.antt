use Rattle.api_members.proofs.Waiting.{other_defers, token_defers}
use Rattle.api_members.proofs.authorizers.defer_header.Goals as goal

pub returns-then-is_token : goal.returns-then-is_token
returns-then-is_token c = token_defers c.defer.result c.defer.new.waiting c.args.waiting.now c.args.name.now c.args.header.now c.is_token.result c.is_token.ensures c.if-is_token.true c.defer.ensures

pub returns-else-is_token : goal.returns-else-is_token
returns-else-is_token c = other_defers c.defer_bad_mapping.result c.defer_bad_mapping.new.waiting c.args.waiting.now c.args.name.now c.args.header.now c.is_token.result c.is_token.ensures c.if-is_token.false c.defer_bad_mapping.ensures

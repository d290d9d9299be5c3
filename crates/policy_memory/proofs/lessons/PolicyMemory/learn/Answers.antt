use Rattle.std.proofs.Common.{ap, ◌∙◌}
use Rattle.lru.specs.LruCache.{LruCache, lru_cache, put_entries}
use Rattle.policy_memory.specs.declared.lessons.Lesson.{Lesson}
use Rattle.policy_memory.specs.declared.names.PolicyName.{PolicyName}
use Rattle.policy_memory.specs.Kept.{Kept}
use Rattle.policy_memory.specs.Names.{same_name}
use Rattle.policy_memory.proofs.Recalling.{remembers-learned}
use Rattle.policy_memory.proofs.lessons.PolicyMemory.learn.Goals as goal

pub returns-clause-remembers : goal.returns-clause-remembers
returns-clause-remembers c =
    λ happened r. remembers-learned happened c.args.self.now _ c.args.name c.args.lesson
    (ap (λ (l : LruCache PolicyName Lesson). l.entries) c.in_ok-put.ensures.entries
    ∙ ap (λ n. put_entries same_name (lru_cache c.self.inside.lessons.entries n) c.args.name c.args.lesson) c.self.invariant
    ∙ ap (λ (k : Kept). put_entries same_name (lru_cache k.lessons 1024) c.args.name c.args.lesson) c.self.view_is)
    (ap (λ (k : Kept). k.flushes) c.self.view_is)
    r

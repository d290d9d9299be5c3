-- The texts of the statements of the store, for each table.
use Rattle.std.specs.Prelude.{ℕ, List, codes}
use Rattle.keeper_core.specs.declared.table.Table.{Table}
use Rattle.keeper_core.specs.declared.table.Table.TheVariants.{Apis, Deployments, Stages, Keys, Plans, Joins}
use Rattle.keeper_core.specs.declared.table.Table.TheVariants.{Meta as Metas}

-- writes a row, new or in the place of the row of its key. The parameters are its columns
unfoldable pub upsert_text : Table → List ℕ
upsert_text Metas = codes "INSERT INTO meta (id, version) VALUES (?1, ?2) ON CONFLICT (id) DO UPDATE SET version = excluded.version"
upsert_text Apis = codes "INSERT INTO apis (api, text, source) VALUES (?1, ?2, ?3) ON CONFLICT (api) DO UPDATE SET text = excluded.text, source = excluded.source"
upsert_text Deployments = codes "INSERT INTO deployments (api, number, text, source) VALUES (?1, ?2, ?3, ?4) ON CONFLICT (api, number) DO UPDATE SET text = excluded.text, source = excluded.source"
upsert_text Stages = codes "INSERT INTO stages (api, stage, deployment, vars, canary, share, canary_vars) VALUES (?1, ?2, ?3, ?4, ?5, ?6, ?7) ON CONFLICT (api, stage) DO UPDATE SET deployment = excluded.deployment, vars = excluded.vars, canary = excluded.canary, share = excluded.share, canary_vars = excluded.canary_vars"
upsert_text Keys = codes "INSERT INTO keys (key, value, enabled) VALUES (?1, ?2, ?3) ON CONFLICT (key) DO UPDATE SET value = excluded.value, enabled = excluded.enabled"
upsert_text Plans = codes "INSERT INTO plans (plan, rate, burst, tversion, qlimit, qoffset, qkind, stages) VALUES (?1, ?2, ?3, ?4, ?5, ?6, ?7, ?8) ON CONFLICT (plan) DO UPDATE SET rate = excluded.rate, burst = excluded.burst, tversion = excluded.tversion, qlimit = excluded.qlimit, qoffset = excluded.qoffset, qkind = excluded.qkind, stages = excluded.stages"
upsert_text Joins = codes "INSERT INTO joins (plan, key, level, at, tversion, pkind, pnumber, allowance, used, first) VALUES (?1, ?2, ?3, ?4, ?5, ?6, ?7, ?8, ?9, ?10) ON CONFLICT (plan, key) DO UPDATE SET level = excluded.level, at = excluded.at, tversion = excluded.tversion, pkind = excluded.pkind, pnumber = excluded.pnumber, allowance = excluded.allowance, used = excluded.used, first = excluded.first"

-- reads the rows in the order of their keys
unfoldable pub rows_text : Table → List ℕ
rows_text Metas = codes "SELECT id, version FROM meta ORDER BY id"
rows_text Apis = codes "SELECT api, text, source FROM apis ORDER BY api"
rows_text Deployments = codes "SELECT api, number, text, source FROM deployments ORDER BY api, number"
rows_text Stages = codes "SELECT api, stage, deployment, vars, canary, share, canary_vars FROM stages ORDER BY api, stage"
rows_text Keys = codes "SELECT key, value, enabled FROM keys ORDER BY key"
rows_text Plans = codes "SELECT plan, rate, burst, tversion, qlimit, qoffset, qkind, stages FROM plans ORDER BY plan"
rows_text Joins = codes "SELECT plan, key, level, at, tversion, pkind, pnumber, allowance, used, first FROM joins ORDER BY plan, key"

-- reads the row of a key. The parameters are the columns of the key
unfoldable pub find_text : Table → List ℕ
find_text Metas = codes "SELECT id, version FROM meta WHERE id = ?1"
find_text Apis = codes "SELECT api, text, source FROM apis WHERE api = ?1"
find_text Deployments = codes "SELECT api, number, text, source FROM deployments WHERE api = ?1 AND number = ?2"
find_text Stages = codes "SELECT api, stage, deployment, vars, canary, share, canary_vars FROM stages WHERE api = ?1 AND stage = ?2"
find_text Keys = codes "SELECT key, value, enabled FROM keys WHERE key = ?1"
find_text Plans = codes "SELECT plan, rate, burst, tversion, qlimit, qoffset, qkind, stages FROM plans WHERE plan = ?1"
find_text Joins = codes "SELECT plan, key, level, at, tversion, pkind, pnumber, allowance, used, first FROM joins WHERE plan = ?1 AND key = ?2"

-- deletes the row of a key. The parameters are the columns of the key
unfoldable pub delete_text : Table → List ℕ
delete_text Metas = codes "DELETE FROM meta WHERE id = ?1"
delete_text Apis = codes "DELETE FROM apis WHERE api = ?1"
delete_text Deployments = codes "DELETE FROM deployments WHERE api = ?1 AND number = ?2"
delete_text Stages = codes "DELETE FROM stages WHERE api = ?1 AND stage = ?2"
delete_text Keys = codes "DELETE FROM keys WHERE key = ?1"
delete_text Plans = codes "DELETE FROM plans WHERE plan = ?1"
delete_text Joins = codes "DELETE FROM joins WHERE plan = ?1 AND key = ?2"

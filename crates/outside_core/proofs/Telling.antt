-- What an outside in memory tells after a call.
use Rattle.std.proofs.Common.{◌≡◌, ℕ, ◌+◌, ◌≤◌, nat_lt, Bool, true, false, List, [], ◌∷◌, ◌++◌, take, drop, map, count_by, Option, Some, None, Result, Ok, Err, IfOk, OnOk, OnErr, refl, sym, ap, ◌∙◌, subst, arith}
use Rattle.std.specs.Prelude.{Vec}
use Rattle.std.specs.List.{list_any}
use Rattle.std.proofs.lemmas.List.{map-append, take-append-drop}
use Rattle.backend_core.specs.Exchanges.{gained}
use Rattle.keeper_core.specs.Keeping.{MemFacts, told_by}
use Rattle.outside_core.specs.declared.outside.KeeperStart.{KeeperStart}
use Rattle.outside_core.specs.declared.outside.KeeperStart.TheVariants.{BadStore, StoreFault, Memory}
use Rattle.outside_core.specs.declared.outside.OutsideFault.{OutsideFault}
use Rattle.outside_core.specs.declared.outside.OutsideFault.TheVariants.{Failed, Memory as LendMemory}
use Rattle.outside_core.specs.Held.{StoreFacts, StoresFacts, LentFacts, OutsideFacts, MemLane, named, found, kept_by, has_failed_load, has_failed_look, faults_of, failed, keeper_returned, all_returned, LendsKeeper, LendsLanes}
use Rattle.outside_core.specs.Lending.{RoseWhere, behind, gained_all, is_failed_start, is_failed_lending}
use Rattle.outside_core.specs.Stores.{IsUnused, store_of, stored}
use Rattle.outside_core.proofs.Counting.{stands, rises, counts_both, rose_by_any}
use Rattle.outside_core.proofs.Naming.{keeper_tables, tables_told}

kept_unused : (store : Option StoreFacts) → IsUnused (told_by (kept_by store))
kept_unused None = record { staged = refl; faults = refl; loads = refl }
kept_unused (Some store) = record { staged = refl; faults = refl; loads = refl }

pub keeper_unused : {E L : Type 0} (name : List ℕ) (r : Result MemFacts KeeperStart) (old new : OutsideFacts E L) → LendsKeeper name r old new → IfOk r (λ keep. IsUnused (told_by keep))
keeper_unused name (Ok keeper) old new lends = rw lends.1 (kept_unused (found name old.stores.stores))
keeper_unused name (Err e) old new lends = tt

pub keeper_lists : {E L : Type 0} (name : List ℕ) (r : Result MemFacts KeeperStart) (old new : OutsideFacts E L) → LendsKeeper name r old new
    → IfOk r (λ keep. Some keep.lists ≡ Some (store_of name (map named old.stores.stores)))
keeper_lists name (Ok keeper) old new lends = ap (λ k. Some k.lists) lends.1 ∙ ap Some (keeper_tables name old.stores.stores)
keeper_lists name (Err e) old new lends = tt

pub keeper_out : {E L : Type 0} (name : List ℕ) (r : Result MemFacts KeeperStart) (old new : OutsideFacts E L) → LendsKeeper name r old new → OnOk r (new.stores.out ≡ name ∷ old.stores.out)
keeper_out name (Ok keeper) old new lends = ap (λ o. o.stores.out) lends.2
keeper_out name (Err e) old new lends = tt

pub keeper_refused : {E L : Type 0} (name : List ℕ) (r : Result MemFacts KeeperStart) (old new : OutsideFacts E L) → LendsKeeper name r old new → OnErr r (new.stores.out ≡ old.stores.out)
keeper_refused name (Ok keeper) old new lends = tt
keeper_refused name (Err (BadStore table row)) old new lends = absurd lends
keeper_refused name (Err StoreFault) old new lends = ap (λ o. o.stores.out) lends.1
keeper_refused name (Err Memory) old new lends = ap (λ o. o.stores.out) lends.1

-- a call that failed counts one fault
fails_once : {E B G : Type 0} (old new : OutsideFacts E (MemLane B G)) → new ≡ failed old → old.failures ≤ new.failures → RoseWhere true (faults_of old) (faults_of new)
fails_once old new is later =
    let backs : new.stores.back ≡ old.stores.back = ap (λ o. o.stores.back) is in
    let lanes : new.lanes.returned ≡ old.lanes.returned = ap (λ o. o.lanes.returned) is in
    rw (backs, lanes) (rises old.failures new.failures (count_by has_failed_load old.stores.back) (count_by has_failed_look old.lanes.returned) (ap (λ o. o.failures) is) later)

pub keeper_faults : {E B G : Type 0} (name : List ℕ) (r : Result MemFacts KeeperStart) (old new : OutsideFacts E (MemLane B G)) → LendsKeeper name r old new → old.failures ≤ new.failures
    → RoseWhere (is_failed_start r) (faults_of old) (faults_of new)
keeper_faults name (Ok keeper) old new lends later = stands _ _ (ap faults_of lends.2)
keeper_faults name (Err (BadStore table row)) old new lends later = absurd lends
keeper_faults name (Err StoreFault) old new lends later = fails_once old new lends.1 later
keeper_faults name (Err Memory) old new lends later = stands _ _ (ap faults_of lends.1)

-- what neither a keeper that is lent nor one that is not changes
pub record Leaves {E L : Type 0} (old new : OutsideFacts E L) : Type 0 where
  pub files : new.files ≡ old.files
  pub stores : new.stores.stores ≡ old.stores.stores
  pub back : new.stores.back ≡ old.stores.back
  pub returned : new.lanes.returned ≡ old.lanes.returned
  pub sessions : new.sessions ≡ old.sessions

pub keeper_leaves : {E L : Type 0} (name : List ℕ) (r : Result MemFacts KeeperStart) (old new : OutsideFacts E L) → LendsKeeper name r old new → Leaves old new × (new.lanes ≡ old.lanes)
keeper_leaves name (Ok keeper) old new lends = (record { files = ap (λ o. o.files) lends.2; stores = ap (λ o. o.stores.stores) lends.2; back = ap (λ o. o.stores.back) lends.2; returned = ap (λ o. o.lanes.returned) lends.2; sessions = ap (λ o. o.sessions) lends.2 }, ap (λ o. o.lanes) lends.2)
keeper_leaves name (Err (BadStore table row)) old new lends = absurd lends
keeper_leaves name (Err StoreFault) old new lends = (record { files = ap (λ o. o.files) lends.1; stores = ap (λ o. o.stores.stores) lends.1; back = ap (λ o. o.stores.back) lends.1; returned = ap (λ o. o.lanes.returned) lends.1; sessions = ap (λ o. o.sessions) lends.1 }, ap (λ o. o.lanes) lends.1)
keeper_leaves name (Err Memory) old new lends = (record { files = ap (λ o. o.files) lends.1; stores = ap (λ o. o.stores.stores) lends.1; back = ap (λ o. o.stores.back) lends.1; returned = ap (λ o. o.lanes.returned) lends.1; sessions = ap (λ o. o.sessions) lends.1 }, ap (λ o. o.lanes) lends.1)

pub lanes_leaves : {E L A : Type 0} (n : ℕ) (r : Result (Vec L A) OutsideFault) (old new : OutsideFacts E L) → LendsLanes n r old new → Leaves old new × (new.stores ≡ old.stores)
lanes_leaves n (Ok lanes) old new lends = (record { files = ap (λ o. o.files) lends.2; stores = ap (λ o. o.stores.stores) lends.2; back = ap (λ o. o.stores.back) lends.2; returned = ap (λ o. o.lanes.returned) lends.2; sessions = ap (λ o. o.sessions) lends.2 }, ap (λ o. o.stores) lends.2)
lanes_leaves n (Err Failed) old new lends = (record { files = ap (λ o. o.files) lends.1; stores = ap (λ o. o.stores.stores) lends.1; back = ap (λ o. o.stores.back) lends.1; returned = ap (λ o. o.lanes.returned) lends.1; sessions = ap (λ o. o.sessions) lends.1 }, ap (λ o. o.stores) lends.1)
lanes_leaves n (Err LendMemory) old new lends = (record { files = ap (λ o. o.files) lends.1; stores = ap (λ o. o.stores.stores) lends.1; back = ap (λ o. o.stores.back) lends.1; returned = ap (λ o. o.lanes.returned) lends.1; sessions = ap (λ o. o.sessions) lends.1 }, ap (λ o. o.stores) lends.1)

pub lanes_first : {E L A T : Type 0} (tells : L → T) (n : ℕ) (r : Result (Vec L A) OutsideFault) (old new : OutsideFacts E L) → LendsLanes n r old new
    → IfOk r (λ lanes. Some (map tells old.lanes.waiting) ≡ behind (map tells lanes.items) (Some (map tells new.lanes.waiting)))
lanes_first tells n (Ok lanes) old new lends =
    let rest : new.lanes.waiting ≡ drop n old.lanes.waiting = ap (λ o. o.lanes.waiting) lends.2 in
    let both : map tells (take n old.lanes.waiting ++ drop n old.lanes.waiting) ≡ map tells (take n old.lanes.waiting) ++ map tells (drop n old.lanes.waiting) = map-append tells (take n old.lanes.waiting) (drop n old.lanes.waiting) in
    let whole : take n old.lanes.waiting ++ drop n old.lanes.waiting ≡ old.lanes.waiting = take-append-drop n old.lanes.waiting in
    rw (rest, lends.1) (ap Some (ap (map tells) (sym whole) ∙ both))
lanes_first tells n (Err e) old new lends = tt

pub lanes_lent : {E L A : Type 0} (n : ℕ) (r : Result (Vec L A) OutsideFault) (old new : OutsideFacts E L) → LendsLanes n r old new → OnOk r (new.lanes.out ≡ old.lanes.out + n)
lanes_lent n (Ok lanes) old new lends = ap (λ o. o.lanes.out) lends.2
lanes_lent n (Err e) old new lends = tt

pub lanes_wait_on : {E L A T : Type 0} (tells : L → T) (n : ℕ) (r : Result (Vec L A) OutsideFault) (old new : OutsideFacts E L) → LendsLanes n r old new
    → OnErr r (Some (map tells new.lanes.waiting) ≡ Some (map tells old.lanes.waiting))
lanes_wait_on tells n (Ok lanes) old new lends = tt
lanes_wait_on tells n (Err Failed) old new lends = ap (λ o. Some (map tells o.lanes.waiting)) lends.1
lanes_wait_on tells n (Err LendMemory) old new lends = ap (λ o. Some (map tells o.lanes.waiting)) lends.1

pub lanes_refused : {E L A : Type 0} (n : ℕ) (r : Result (Vec L A) OutsideFault) (old new : OutsideFacts E L) → LendsLanes n r old new → OnErr r (new.lanes.out ≡ old.lanes.out)
lanes_refused n (Ok lanes) old new lends = tt
lanes_refused n (Err Failed) old new lends = ap (λ o. o.lanes.out) lends.1
lanes_refused n (Err LendMemory) old new lends = ap (λ o. o.lanes.out) lends.1

pub lanes_faults : {E B G A : Type 0} (n : ℕ) (r : Result (Vec (MemLane B G) A) OutsideFault) (old new : OutsideFacts E (MemLane B G)) → LendsLanes n r old new → old.failures ≤ new.failures
    → RoseWhere (is_failed_lending r) (faults_of old) (faults_of new)
lanes_faults n (Ok lanes) old new lends later = stands _ _ (ap faults_of lends.2)
lanes_faults n (Err Failed) old new lends later = fails_once old new lends.1 later
lanes_faults n (Err LendMemory) old new lends later = stands _ _ (ap faults_of lends.1)

-- what is told after a keeper was given back
pub back_kept : (facts : StoresFacts) (name : List ℕ) (keeper : MemFacts) → Some (map told_by (keeper_returned name keeper facts).back) ≡ gained (Some (map told_by facts.back)) (told_by keeper)
back_kept facts name keeper = ap Some (map-append told_by facts.back (keeper ∷ []))

pub back_stored : (facts : StoresFacts) (name : List ℕ) (keeper : MemFacts)
    → Some (map named (keeper_returned name keeper facts).stores) ≡ stored name (Some keeper.lists) (Some (map named facts.stores))
back_stored facts name keeper = ap Some (tables_told name keeper.lists facts.stores)

-- a count with another beside it
beside_more : (failures a more b : ℕ) (so : Bool) → RoseWhere so (failures + a + b) (failures + a + b + more) → RoseWhere so (failures + a + b) (failures + (a + more) + b)
beside_more failures a more b so rose =
    let same : failures + (a + more) + b ≡ failures + a + b + more = omega arith in
    rw same rose

beside_last : (failures a more b : ℕ) (so : Bool) → RoseWhere so (failures + a + b) (failures + a + b + more) → RoseWhere so (failures + a + b) (failures + a + (b + more))
beside_last failures a more b so rose =
    let same : failures + a + (b + more) ≡ failures + a + b + more = omega arith in
    rw same rose

one_any : (b : Bool) → list_any (λ (x : Bool). x) (b ∷ []) ≡ b
one_any true = refl
one_any false = refl

pub back_faults : {E B G : Type 0} (old : OutsideFacts E (MemLane B G)) (name : List ℕ) (keeper : MemFacts)
    → RoseWhere (nat_lt 0 keeper.loads) (faults_of old) (faults_of (record old { stores = keeper_returned name keeper old.stores }))
back_faults old name keeper =
    let more : RoseWhere (list_any has_failed_load (keeper ∷ [])) (faults_of old) (faults_of old + count_by has_failed_load (keeper ∷ [])) = rose_by_any has_failed_load (keeper ∷ []) (faults_of old) in
    let it : list_any has_failed_load (keeper ∷ []) ≡ nat_lt 0 keeper.loads = one_any (nat_lt 0 keeper.loads) in
    let rose : RoseWhere (nat_lt 0 keeper.loads) (faults_of old) (faults_of old + count_by has_failed_load (keeper ∷ [])) = subst (λ so. RoseWhere so (faults_of old) (faults_of old + count_by has_failed_load (keeper ∷ []))) it more in
    rw (counts_both has_failed_load old.stores.back (keeper ∷ [])) (beside_more old.failures (count_by has_failed_load old.stores.back) (count_by has_failed_load (keeper ∷ [])) (count_by has_failed_look old.lanes.returned) _ rose)

-- what is told after lanes were given back
pub back_returned : {L T : Type 0} (tells : L → T) (facts : LentFacts L) (lanes : List L) → Some (map tells (all_returned lanes facts).returned) ≡ gained_all (Some (map tells facts.returned)) (map tells lanes)
back_returned tells facts lanes = ap Some (map-append tells facts.returned lanes)

pub back_looks : {E B G : Type 0} (old : OutsideFacts E (MemLane B G)) (lanes : List (MemLane B G))
    → RoseWhere (list_any has_failed_look lanes) (faults_of old) (faults_of (record old { lanes = all_returned lanes old.lanes }))
back_looks old lanes =
    let rose = rose_by_any has_failed_look lanes (faults_of old) in
    rw (counts_both has_failed_look old.lanes.returned lanes) (beside_last old.failures (count_by has_failed_load old.stores.back) (count_by has_failed_look lanes) (count_by has_failed_look old.lanes.returned) _ rose)

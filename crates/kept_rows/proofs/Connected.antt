-- A connection to a store, and what is read over it.
use Rattle.std.proofs.Common.{◌≡◌, false, IsTrue, Ok, refl, subst}
use Rattle.std.specs.List.{AllByRecursion}
use Rattle.sqlite_trees.specs.declared.store.Shape.TheVariants as shape
use Rattle.sqlite_trees.specs.declared.store.Store.{Ghosts}
use Rattle.sqlite_trees.specs.Objects.{catalog_tree, IsListed}
use Rattle.sqlite_trees.specs.View.{IsOrdered, IsShaped}
use Rattle.sqlite_schema.specs.Rules.{IsLaidOut}
use Rattle.sqlite_catalog.proofs.LayoutLemmas.{laid_out, objects_rise}
use Rattle.sqlite_rules.proofs.ListLemmas.{all_from, all_has}
use Rattle.sqlite_tied.specs.Compute.{everything}
use Rattle.sqlite.specs.Held.{Held, IsConnected, state}
use Rattle.sqlite_resolve.specs.Compile.{table_defined_by}
use Rattle.keeper_core.specs.declared.table.Table.{Table}
use Rattle.keeper_core.specs.declared.table.Table.TheVariants.{Apis, Deployments, Stages, Keys, Plans, Joins}
use Rattle.keeper_core.specs.declared.table.Table.TheVariants.{Meta as Metas}
use Rattle.kept_rows.specs.Laws.{SchemaIsMade, WrittenRowsAreReadBack}
use Rattle.kept_rows.specs.Store.{made_of, store_schema, table_in, table_text}
use Rattle.kept_rows.proofs.Back.{IsStore, row_back}

texts_define : (table : Table) → table_defined_by (table_text table) ≡ Ok (record (table_in table) { tree = 0 })
unfolding everything table_in table_text
texts_define Metas = refl
texts_define Apis = refl
texts_define Deployments = refl
texts_define Stages = refl
texts_define Keys = refl
texts_define Plans = refl
texts_define Joins = refl

tables_make : made_of ≡ store_schema
unfolding everything store_schema table_in made_of
tables_make = refl

pub schema_is_made : SchemaIsMade
schema_is_made = record { defined = texts_define; made = tables_make }

module _ {S : Type 0} (g : Ghosts S) (ordered : (s : S) → (g.view s).is_broken ≡ false → IsOrdered (g.view s).shape (g.view s).trees)
    (listed : (s : S) → (g.view s).is_broken ≡ false → IsListed ((g.view s).trees catalog_tree) (g.view s).shape (g.view s).reals) where
  -- an open connection, whose schema is the store's, is one to a store
  store_in : (h : Held S) → h.schema ≡ store_schema → IsConnected (g.view h.store) (g.recovers h.store) h.schema h.saved h.in_transaction → IsTrue (state g h).is_open → IsStore (state g h)
  store_in h has connected runs =
      let serves = connected.serves runs in
      let rises = ordered h.store serves.unbroken in
      let lists = listed h.store serves.unbroken in
      let laid : IsLaidOut h.schema (g.view h.store).shape = laid_out lists (objects_rise (g.view h.store) lists rises) serves.sound.lists.listed in
      record {
        schema = has;
        sound = serves.sound;
        ordered =
            subst (λ s. AllByRecursion (λ t. IsShaped shape.Table ((g.view h.store).trees t.tree)) s.tables) has
            (all_from (λ t. IsShaped shape.Table ((g.view h.store).trees t.tree)) h.schema.tables
            (λ t there. subst (λ s. IsShaped s ((g.view h.store).trees t.tree)) (all_has _ h.schema.tables t laid.tables there) (rises t.tree)));
      }

  pub read_back : WrittenRowsAreReadBack g
  read_back row old mid new found has connected ran seen =
      row_back row (state g old) (state g mid) (state g new) ran.0 found (store_in old has connected ran.1.1.was_open) ran.1.0 seen

-- A stored path is looked up as what is read of it.
use Rattle.std.proofs.Common.{arith, ◌≡◌, ◌∙◌, refl, sym, ap, ℕ, suc, false, if◌then◌else◌, nat_le, length, List, [], ◌∷◌}
use Rattle.hir_store.specs.Stored.{Store, SourceMap}
use Rattle.hir_store.specs.declared.ids.HygieneId.{HygieneId}
use Rattle.hir_store.specs.declared.name.Name.{Name}
use Rattle.hir_store.specs.declared.path.Path.{Path}
use Rattle.hir_store.specs.declared.path.Path.TheVariants.{BarePath, Normal, LangItem}
use Rattle.hir_lower_builder.specs.Forms.{path_hygiene}
use Rattle.spec_data.specs.Data.{names_in}
use Rattle.spec_data.specs.Lookup.{hygiene_for, lookup_hygiene}
use Rattle.spec_data.specs.Reading.{Readers, names_alone, path_layer, stored_path}

at_least_two : (k : ℕ) → nat_le (suc (suc k)) 1 ≡ false
at_least_two k = grind arith

abbrev by_length : List Name → HygieneId → HygieneId
by_length ns h = if nat_le (length ns) 1 then h else record { 0 = 0 }

hygiene_is : (ns : List Name) (h : HygieneId) → by_length ns h ≡ hygiene_for ns h
hygiene_is [] h = refl
hygiene_is (n ∷ []) h = refl
hygiene_is (n ∷ (m ∷ ns)) h = ap (λ b. if b then h else record { 0 = 0 }) (at_least_two (length ns))

pub names_read : (ns : List Name) → names_in (names_alone ns) ≡ ns
names_read [] = refl
names_read (n ∷ ns) = ap (λ ms. n ∷ ms) (names_read ns)

-- however its parts are read
pub looked_up_by : (store : Store) (source_map : SourceMap) (r : Readers) (p : Path) (h : HygieneId)
    → path_hygiene p h ≡ lookup_hygiene (path_layer store source_map r p) h
looked_up_by store source_map r (BarePath p) h =
    hygiene_is p.segments h ∙ ap (λ ns. hygiene_for ns h) (sym (names_read p.segments))
looked_up_by store source_map r (Normal p) h = refl
looked_up_by store source_map r (LangItem i) h = refl

pub looked_up : (store : Store) (source_map : SourceMap) (p : Path) (h : HygieneId)
    → path_hygiene p h ≡ lookup_hygiene (stored_path store source_map p) h
unfolding stored_path
looked_up store source_map p h = looked_up_by store source_map _ p h

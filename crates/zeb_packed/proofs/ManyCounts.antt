-- Rows of `dict` that are put at once.
use Rattle.zeb_packed.proofs.Cited.{◌≡◌, ℕ, ℤ, true, Ok, List, [], ◌∷◌, length, map, refl, AllByRecursion, Insert, Values, Term, Row, Executes, State, command_of, IsPlain, IsStore, Changes, dict_tree, store_schema, dict, dict_static, AreValuesOf, new_count_row, NewCount, ADD_COUNTS, MANY, keeps_all}
use Rattle.sqlite.specs.Listing.{understood}
use Rattle.sqlite_tied.specs.Compute.{everything}
use Rattle.zeb_packed.proofs.ManyRows.{GainsNumbered, inserts_many, rows_shown, rows_terms}

abbrev pub add_text : List ℕ
add_text = ADD_COUNTS.now

abbrev add_terms : List Term
add_terms = rows_terms 5 MANY 0

add_is : command_of (understood store_schema add_text) ≡ Insert 5 (Values add_terms 6)
unfolding understood everything
add_is = refl

add_plain : IsPlain (understood store_schema add_text)
unfolding understood everything
add_plain = (refl, refl)

rows_long : (db : ℤ) (news : List NewCount) → AllByRecursion (λ (r : Row). length r ≡ 5) (map (new_count_row db) news)
rows_long db [] = tt
rows_long db (one ∷ news) = (refl, rows_long db news)

rows_kept : (db : ℤ) (news : List NewCount) → AllByRecursion (λ (r : Row). keeps_all dict.columns r ≡ true) (map (new_count_row db) news)
rows_kept db [] = tt
rows_kept db (one ∷ news) = (refl, rows_kept db news)

pub adds_counts : (db : ℤ) (news : List NewCount) (params : Row) → AreValuesOf (new_count_row db) news params → (old new : State) (count : ℕ) → IsStore old → Executes add_text params old new (Ok count)
    → Changes dict_tree (GainsNumbered (map (new_count_row db) news)) old new
adds_counts db news params are old new count store ran =
    inserts_many store_schema 5 dict dict_static add_text params add_terms 6 (map (new_count_row db) news) add_is add_plain (rows_shown (new_count_row db) 5 news params are (rows_long db news)) (rows_kept db news) old new count store ran

-- The postings of a key by its units: all that its list has, and each of them.
use Rattle.zeb_search.proofs.Cited.{ℤ, List, subst, Trees, Has, Key, Posting, Format, HasAll, Occurs, places_in, ListsUnits, one_places}
use Rattle.zeb_register.proofs.KeyPlaces.{in_place, place_in, place_of}

module _ (format : Format) (trees : Trees) (db : ℤ) (key : Key) (list : List Posting) (lists : ListsUnits format trees db key list) where
  -- a posting of the key is on its list
  pub on_list : (p : Posting) → Occurs format trees db key p → Has list p
  on_list p occurs =
      in_place list p (subst (λ l. Has l (place_of p)) (one_places format trees db key p.sysno occurs.0 (places_in p.sysno list) occurs.1 (lists.units p.sysno)) occurs.2)

  -- and a posting of the list is one of the key
  pub of_list : (p : Posting) → Has list p → Occurs format trees db key p
  of_list p here = (places_in p.sysno list, lists.units p.sysno, place_in list p here)

  pub all_listed : HasAll format trees db key list
  all_listed = record { whole = lists.whole; has = on_list }

-- a longer list has them too
pub all_more : (format : Format) (trees : Trees) (db : ℤ) (key : Key) (list more : List Posting) → ((p : Posting) → Has list p → Has more p) → HasAll format trees db key list → HasAll format trees db key more
all_more format trees db key list more also all = record { whole = all.whole; has = λ p occurs. also p (all.has p occurs) }

-- What a change of a stock writes, and that the index agrees with the table after it.
use Rattle.std.proofs.Common.{◌≡◌, ◌≢◌, ◌⊎◌, inl, inr, List, [], ◌∷◌, ◌++◌, T, Option, Some, None, unwrap_or, sym, refl, ap, ◌∙◌, subst}
use Rattle.std.specs.FinMap.Entries.{find, put, is_sorted, is_sorted-put}
use Rattle.sled_nodes.proofs.Basics.{none_some, some_is, key_total}
use Rattle.sled_nodes.proofs.Put.{found_here, found_there}
use Rattle.ordered_keys.specs.Keys.{IsOneToOne}
use Rattle.ordered_keys.specs.declared.part.Kind.TheVariants as kind
use Rattle.ordered_keys.specs.declared.part.Part.{Part}
use Rattle.ordered_keys.specs.declared.part.Part.TheVariants.{Text}
use Rattle.sled_nodes.specs.Order.{Key, key_cmp}
use Rattle.sled_batch.specs.Batch.{Writes}
use Rattle.example_parts.proofs.Keys.{same_or_apart}
use Rattle.example_databases.specs.Stock.{entry_key, Agree, item_taken, entry_taken, item_put, entry_put}

-- ---- what a change writes

pub items_rise : (item : Key) (from to : Option Key) → T (is_sorted key_cmp (item_put item to (item_taken item from [])))
items_rise item None None = tt
items_rise item (Some f) None = tt
items_rise item None (Some p) = is_sorted-put key_cmp key_total item (Some p) [] tt
items_rise item (Some f) (Some p) = is_sorted-put key_cmp key_total item (Some p) (item_taken item (Some f) []) tt

pub entries_rise : (item : Key) (from to : Option Key) → T (is_sorted key_cmp (entry_put item to (entry_taken item from [])))
entries_rise item None None = tt
entries_rise item (Some f) None = tt
entries_rise item None (Some p) = is_sorted-put key_cmp key_total (entry_key p item) (Some item) [] tt
entries_rise item (Some f) (Some p) = is_sorted-put key_cmp key_total (entry_key p item) (Some item) (entry_taken item (Some f) []) tt

item_put_off : (q item : Key) (to : Option Key) (ws : Writes) → q ≢ item → find key_cmp q (item_put item to ws) ≡ find key_cmp q ws
item_put_off q item None ws off = refl
item_put_off q item (Some p) ws off = found_there q item (Some p) ws off

item_taken_off : (q item : Key) (from : Option Key) (ws : Writes) → q ≢ item → find key_cmp q (item_taken item from ws) ≡ find key_cmp q ws
item_taken_off q item None ws off = refl
item_taken_off q item (Some p) ws off = found_there q item None ws off

-- the key is no entry of the item
abbrev IsOff : Key → Key → Option Key → Type 0
IsOff key item place = (p : Key) → place ≡ Some p → key ≢ entry_key p item

entry_put_off : (q item : Key) (to : Option Key) (ws : Writes) → IsOff q item to → find key_cmp q (entry_put item to ws) ≡ find key_cmp q ws
entry_put_off q item None ws off = refl
entry_put_off q item (Some p) ws off = found_there q (entry_key p item) (Some item) ws (off p refl)

entry_taken_off : (q item : Key) (from : Option Key) (ws : Writes) → IsOff q item from → find key_cmp q (entry_taken item from ws) ≡ find key_cmp q ws
entry_taken_off q item None ws off = refl
entry_taken_off q item (Some p) ws off = found_there q (entry_key p item) None ws (off p refl)

-- the item lies where it is put
item_is : (item : Key) (from to was : Option Key) → was ≡ from → unwrap_or (find key_cmp item (item_put item to (item_taken item from []))) was ≡ to
item_is item None None was e = e
item_is item (Some f) None was e = ap (λ o. unwrap_or o was) (found_here item None [])
item_is item None (Some p) was e = ap (λ o. unwrap_or o was) (found_here item (Some p) [])
item_is item (Some f) (Some p) was e = ap (λ o. unwrap_or o was) (found_here item (Some p) (put key_cmp item None []))

-- whether a key is the entry of the item at this place
is_entry : (key item : Key) (place : Option Key) → ((p : Key) × (place ≡ Some p) × (key ≡ entry_key p item)) ⊎ IsOff key item place
is_entry key item None = inr (λ p e. none_some e)
is_entry key item (Some p) = elim (same_or_apart key (entry_key p item)) [
  | inl same ↦ inl (p, refl, same)
  | inr off ↦ inr (λ q e same. off (same ∙ ap (λ x. entry_key x item) (sym (some_is e))))
]

-- the two parts of an entry are told by its key
abbrev part_at : Part → Key
part_at (Text t) = t
part_at p = []

abbrev first_text : List Part → Key
first_text (p ∷ ps) = part_at p
first_text [] = []

abbrev second_text : List Part → Key
second_text (p ∷ ps) = first_text ps
second_text [] = []

parts_same : IsOneToOne → (p i q j : Key) → entry_key p i ≡ entry_key q j → (p ≡ q) × (i ≡ j)
parts_same law p i q j e =
    let same = (law (kind.Text ∷ kind.Text ∷ []) (Text p ∷ Text i ∷ []) (Text q ∷ Text j ∷ []) [] [] (tt, (tt, tt)) (tt, (tt, tt)) (ap (λ k. k ++ []) e)).0 in
    (ap first_text same, ap second_text same)

-- ---- and what that makes of the two

module _ (law : IsOneToOne) (table index table-after index-after : Key → Option Key) (item : Key) (from to : Option Key) (agree : Agree table index) (was : table item ≡ from)
    (items : (q : Key) → table-after q ≡ unwrap_or (find key_cmp q (item_put item to (item_taken item from []))) (table q))
    (entries : (q : Key) → index-after q ≡ unwrap_or (find key_cmp q (entry_put item to (entry_taken item from []))) (index q)) where
  pub lies : table-after item ≡ to
  lies = items item ∙ item_is item from to (table item) was

  pub others : (q : Key) → q ≢ item → table-after q ≡ table q
  others q off = items q ∙ ap (λ o. unwrap_or o (table q)) (item_put_off q item to (item_taken item from []) off ∙ item_taken_off q item from [] off)

  kept : (key : Key) → IsOff key item from → IsOff key item to → index-after key ≡ index key
  kept key off-from off-to = entries key ∙ ap (λ o. unwrap_or o (index key)) (entry_put_off key item to (entry_taken item from []) off-to ∙ entry_taken_off key item from [] off-from)

  put_there : (p : Key) (to : Option Key) → to ≡ Some p → find key_cmp (entry_key p item) (entry_put item to (entry_taken item from [])) ≡ Some (Some item)
  put_there p None e = none_some e
  put_there p (Some q) e = subst (λ x. find key_cmp (entry_key p item) (put key_cmp (entry_key x item) (Some item) (entry_taken item from [])) ≡ Some (Some item)) (sym (some_is e)) (found_here (entry_key p item) (Some item) (entry_taken item from []))

  entered : (p : Key) → to ≡ Some p → index-after (entry_key p item) ≡ Some item
  entered p e = entries (entry_key p item) ∙ ap (λ o. unwrap_or o (index (entry_key p item))) (put_there p to e)

  taken_there : (p : Key) (from : Option Key) → from ≡ Some p → find key_cmp (entry_key p item) (entry_taken item from []) ≡ Some None
  taken_there p None e = none_some e
  taken_there p (Some q) e = subst (λ x. taken_out x ≡ Some None) (sym (some_is e)) (found_here (entry_key p item) None [])
    where
      taken_out : Key → Option (Option Key)
      taken_out x = find key_cmp (entry_key p item) (put key_cmp (entry_key x item) None [])

  gone : (p : Key) → from ≡ Some p → IsOff (entry_key p item) item to → index-after (entry_key p item) ≡ None
  gone p e off = entries (entry_key p item) ∙ ap (λ o. unwrap_or o (index (entry_key p item))) (entry_put_off (entry_key p item) item to (entry_taken item from []) off ∙ taken_there p from e)

  -- another item's entry is none of this one's
  foreign : (place other : Key) → other ≢ item → (p : Option Key) → IsOff (entry_key place other) item p
  foreign place other off p x e same = off (parts_same law place other x item same).1

  has-after : (i place : Key) → table-after i ≡ Some place → index-after (entry_key place i) ≡ Some i
  has-after i place e = elim (same_or_apart i item) [
    | inl same ↦ subst (λ x. index-after (entry_key place x) ≡ Some x) (sym same) (entered place (sym lies ∙ ap table-after (sym same) ∙ e))
    | inr off ↦ kept (entry_key place i) (foreign place i off from) (foreign place i off to) ∙ agree.has i place (sym (others i off) ∙ e)
  ]

  abbrev Stands : Key → Key → Type 0
  Stands key i = (place : Key) × (table-after i ≡ Some place) × (key ≡ entry_key place i)

  -- an entry that stood before
  stood : (key i : Key) → IsOff key item from → (place : Key) × (table i ≡ Some place) × (key ≡ entry_key place i) → Stands key i
  stood key i off (place, there, is) = elim (same_or_apart i item) [
    | inl same ↦ absurd (off place (sym was ∙ ap table (sym same) ∙ there) (is ∙ ap (entry_key place) same))
    | inr apart ↦ (place, others i apart ∙ there, is)
  ]

  only-after : (key i : Key) → index-after key ≡ Some i → Stands key i
  only-after key i e = elim (is_entry key item to) [
    | inl (p, put, is) ↦
        let same : item ≡ i = some_is (sym (entered p put) ∙ ap index-after (sym is) ∙ e) in
        (p, ap table-after (sym same) ∙ lies ∙ put, is ∙ ap (entry_key p) same)
    | inr off-to ↦ elim (is_entry key item from) [
      | inl (p, took, is) ↦ none_some (sym (gone p took (subst (λ k. IsOff k item to) is off-to)) ∙ ap index-after (sym is) ∙ e)
      | inr off-from ↦ stood key i off-from (agree.only key i (sym (kept key off-from off-to) ∙ e))
    ]
  ]

  pub still_agree : Agree table-after index-after
  still_agree = record { has = has-after; only = only-after }

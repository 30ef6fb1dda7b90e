-- What calls on many keys make of the maps, and what a crash may leave of them.
use Rattle.std.proofs.Common.{◌≡◌, ◌≢◌, ◌⊎◌, ℕ, zero, suc, ◌+◌, false, not, cond, T, List, [], ◌∷◌, ◌++◌, map, length, Option, Some, None, option_map, Result, Ok, Err, IfErr, OnOk, Less, Equal, Greater, is_lt, is_eq, sym, refl, ap, ◌∙◌, subst, inl, inr}
use Rattle.std.proofs.lemmas.Cmp.{tied_itself}
use Rattle.std.specs.FinMap.Entries.{is_sorted, below_all}
use Rattle.std.specs.declared.cmp.Ordering.{Ordering}
use Rattle.sled_nodes.proofs.Basics.{some_is, of_true, left_of, right_of, key_total}
use Rattle.sled_nodes.specs.Order.{Key, key_cmp}
use Rattle.sled_nodes.specs.Node.{without}
use Rattle.sled_store.specs.In.{In}
use Rattle.sled_store.specs.Store.{Store}
use Rattle.sled_store.specs.theory.Facts.{put_name_here, put_name_elsewhere}
use Rattle.sled_nodes.specs.declared.error.Error.{Error}
use Rattle.sled_model.specs.Maps.{Map, Maps, Merge}
use Rattle.sled_model.specs.Answer.{answer_of}
use Rattle.sled_model.specs.State.{State, NamedTree, maps_of, after_decision_on}
use Rattle.sled_model.specs.Whole.{RemovesLeast, RemovesNone, RemovesOne}
use Rattle.sled_model.specs.declared.call.Call.TheVariants.{Remove}
use Rattle.sled_model.specs.declared.call.Whole.TheVariants.{Clear}
use Rattle.sled_model.specs.declared.reply.Reply.TheVariants.{Done}
use Rattle.sled_model.specs.declared.tree.Tree.{Tree}
use Rattle.sled.specs.Values.{DbValue, db_state}
use Rattle.sled.specs.Sound.{IsDb}
use Rattle.sled.specs.Direct.{WholeDecided, WholeRefused}
use Rattle.sled.specs.Parts.{told_parts, ClearsParts}
use Rattle.sled.specs.Promises.{ChangesMap}
use Rattle.sled.specs.Wholes.{LeavesMaps}
use Rattle.sled.specs.ManyKeys.{LosesFirst, RefusesClear, LackFirst}
use Rattle.sled.proofs.Promising.{remove_takes}
use Rattle.sled.proofs.Trees.{maps_ascend}

abbrev pub map_in : Option NamedTree → Option Map
map_in o = option_map (λ (t : NamedTree). t.map) o

-- ---- a map without its first pair

without_below : (k : Key) (es : Map) → T (below_all key_cmp k es) → without k es ≡ es
without_below k [] below = refl
without_below k (e ∷ es) below =
    ap (λ b. cond (not b) (e ∷ without k es) (without k es)) (apart (key_cmp k e.0) (left_of (is_lt (key_cmp k e.0)) (below_all key_cmp k es) below))
    ∙ ap (λ l. e ∷ l) (without_below k es (right_of (is_lt (key_cmp k e.0)) (below_all key_cmp k es) below))
  where
    apart : (o : Ordering) → T (is_lt o) → is_eq o ≡ false
    apart Less t = refl
    apart Equal t = absurd t
    apart Greater t = absurd t

without_first : (pair : Key × Key) (rest : Map) → T (is_sorted key_cmp (pair ∷ rest)) → without pair.0 (pair ∷ rest) ≡ rest
without_first pair rest sorted =
    ap (λ b. cond (not b) (pair ∷ without pair.0 rest) (without pair.0 rest)) (ap is_eq (tied_itself key_total pair.0))
    ∙ without_below pair.0 rest (left_of (below_all key_cmp pair.0 rest) (is_sorted key_cmp rest) sorted)

-- its removal
first_out : (t : NamedTree) (pair : Key × Key) (rest : Map) → t.map ≡ pair ∷ rest → T (is_sorted key_cmp t.map) → ((answer_of t.merge (Remove pair.0) t.map).map ≡ rest) × T (is_sorted key_cmp rest)
first_out t pair rest is sorted =
    let here : T (is_sorted key_cmp (pair ∷ rest)) = subst (λ (m : Map). T (is_sorted key_cmp m)) is sorted in
    (remove_takes t.merge pair.0 t.map sorted ∙ ap (without pair.0) is ∙ without_first pair rest here, right_of (below_all key_cmp pair.0 rest) (is_sorted key_cmp rest) here)

-- ---- clears

-- the state after the removal of a key, and its tree
abbrev pub after_removal : State → Key → NamedTree → Key → State
after_removal s name t key = after_decision_on s name t (answer_of t.merge (Remove key) t.map)

abbrev pub left_over : NamedTree → Key → NamedTree
left_over t key = record t { map = (answer_of t.merge (Remove key) t.map).map }

module _ (tree : Tree) where
  other_stays : (a : State) (named : NamedTree) (key name : Key) → name ≢ tree.name → maps_of (after_removal a tree.name named key) name ≡ maps_of a name
  other_stays a named key name off = ap map_in (put_name_elsewhere a.trees tree.name name (Some (left_over named key)) off)

  -- so many keys are gone, and they were the first
  pub record FirstGone (before : Map) (n : ℕ) (a b : State) : Type 0 where
    pub named : NamedTree
    pub there : b.trees tree.name ≡ Some named
    pub gone : Map
    pub is : before ≡ gone ++ named.map
    pub many : length gone ≡ n
    pub others : (name : Key) → name ≢ tree.name → maps_of b name ≡ maps_of a name

  first_gone : (n : ℕ) (a b : State) (maps : List Maps) → RemovesLeast tree a n b maps → (t : NamedTree) → a.trees tree.name ≡ Some t → T (is_sorted key_cmp t.map) → FirstGone t.map n a b
  first_gone zero a b [] RemovesNone t there sorted = record { named = t; there = there; gone = []; is = refl; many = refl; others = λ name off. refl }
  first_gone (suc n) a b (m ∷ maps) (RemovesOne named pair rest here is more) t there sorted =
      let same : t ≡ named = some_is (sym there ∙ here) in
      let sorted_here : T (is_sorted key_cmp named.map) = subst (λ (z : NamedTree). T (is_sorted key_cmp z.map)) same sorted in
      let out = first_out named pair rest is sorted_here in
      let k = first_gone n (after_removal a tree.name named pair.0) b maps more (left_over named pair.0) (put_name_here a.trees tree.name (Some (left_over named pair.0))) (subst (λ (z : Map). T (is_sorted key_cmp z)) (sym out.0) out.1) in record {
        named = k.named;
        there = k.there;
        gone = pair ∷ k.gone;
        is = ap (λ (z : NamedTree). z.map) same ∙ is ∙ ap (λ l. pair ∷ l) (sym out.0 ∙ k.is);
        many = ap suc k.many;
        others = λ name off. k.others name off ∙ other_stays a named pair.0 name off;
      }
  first_gone zero a b (m ∷ maps) run t there sorted = elim run [ ]
  first_gone (suc n) a b [] run t there sorted = elim run [ ]

  -- so is each map on the way
  pub record OnTheWay (before : Map) (a : State) (m : Maps) : Type 0 where
    pub gone : Map
    pub after : Map
    pub was : before ≡ gone ++ after
    pub is : m tree.name ≡ Some after
    pub others : (name : Key) → name ≢ tree.name → m name ≡ maps_of a name

  on_the_way : (n : ℕ) (a b : State) (maps : List Maps) → RemovesLeast tree a n b maps → (t : NamedTree) → a.trees tree.name ≡ Some t → T (is_sorted key_cmp t.map) → (m : Maps) → In m maps → OnTheWay t.map a m
  on_the_way zero a b [] RemovesNone t there sorted m i = absurd i
  on_the_way (suc n) a b (now ∷ maps) (RemovesOne named pair rest here is more) t there sorted m i = elim i [
    | inl e ↦ record {
      gone = pair ∷ [];
      after = rest;
      was = first_is;
      is = ap (λ (f : Maps). f tree.name) e ∙ ap map_in (put_name_here a.trees tree.name (Some (left_over named pair.0))) ∙ ap (λ (z : Map). Some z) out.0;
      others = λ name off. ap (λ (f : Maps). f name) e ∙ other_stays a named pair.0 name off;
    }
    | inr later ↦
        let k = on_the_way n (after_removal a tree.name named pair.0) b maps more (left_over named pair.0) (put_name_here a.trees tree.name (Some (left_over named pair.0))) (subst (λ (z : Map). T (is_sorted key_cmp z)) (sym out.0) out.1) m later in record {
          gone = pair ∷ k.gone;
          after = k.after;
          was = first_is ∙ ap (λ l. pair ∷ l) (sym out.0 ∙ k.was);
          is = k.is;
          others = λ name off. k.others name off ∙ other_stays a named pair.0 name off;
        }
  ]
    where
      same : t ≡ named
      same = some_is (sym there ∙ here)

      out : ((answer_of named.merge (Remove pair.0) named.map).map ≡ rest) × T (is_sorted key_cmp rest)
      out = first_out named pair rest is (subst (λ (z : NamedTree). T (is_sorted key_cmp z.map)) same sorted)

      first_is : t.map ≡ pair ∷ rest
      first_is = ap (λ (z : NamedTree). z.map) same ∙ is
  on_the_way zero a b (now ∷ maps) run t there sorted m i = elim run [ ]
  on_the_way (suc n) a b [] run t there sorted m i = elim run [ ]

  -- one that removed a key found the tree
  there_before : (n : ℕ) (a b : State) (maps : List Maps) → RemovesLeast tree a n b maps → ((n ≡ 0) × (b ≡ a) × (maps ≡ [])) ⊎ ((t : NamedTree) × (a.trees tree.name ≡ Some t))
  there_before zero a b [] RemovesNone = inl (refl, refl, refl)
  there_before (suc n) a b (m ∷ maps) (RemovesOne named pair rest here is more) = inr (named, here)
  there_before zero a b (m ∷ maps) run = elim run [ ]
  there_before (suc n) a b [] run = elim run [ ]

module _ {P M : Type 0} (store : P → Store) (meant : M → Merge) (old : DbValue P M) (db : IsDb store old) (tree : Tree) (new : DbValue P M) where
  sorted_at : (t : NamedTree) → (db_state store meant old).trees tree.name ≡ Some t → T (is_sorted key_cmp t.map)
  sorted_at t there = of_true (is_sorted key_cmp t.map) ((maps_ascend store meant old db).is tree.name t.map (ap map_in there))

  module _ (n : ℕ) (maps : List Maps) (removes : RemovesLeast tree (db_state store meant old) n (db_state store meant new) maps) where
    lost_first : (number : ℕ) → number ≡ told_parts n → (t : NamedTree) → (db_state store meant old).trees tree.name ≡ Some t → ChangesMap store meant old tree (LosesFirst number) new
    lost_first number told t there =
        let k = first_gone tree n (db_state store meant old) (db_state store meant new) maps removes t there (sorted_at t there) in record {
          before = t.map;
          was = ap map_in there;
          after = k.named.map;
          becomes = ap map_in k.there;
          is = record { gone = k.gone; is = k.is; told = told ∙ ap told_parts (sym k.many) };
          others = k.others;
        }

    lack_first : (m : Maps) → In m maps → LackFirst store meant old tree m
    lack_first m i = elim (there_before tree n (db_state store meant old) (db_state store meant new) maps removes) [
      | inl none ↦ absurd (subst (In m) none.2 i)
      | inr named ↦
          let k = on_the_way tree n (db_state store meant old) (db_state store meant new) maps removes named.0 named.1 (sorted_at named.0 named.1) m i in record {
            gone = k.gone;
            after = k.after;
            was = ap map_in named.1 ∙ ap (λ (z : Map). Some z) k.was;
            is = k.is;
            others = k.others;
          }
    ]

  -- ---- a clear that is decided, and one that is refused

  module _ (number : ℕ) (parts : ClearsParts store meant old tree number new) where
    abbrev removed : RemovesLeast tree (db_state store meant old) parts.parts (db_state store meant new) parts.maps
    removed = parts.removes (λ n. None) 0

    pub clear_counts : WholeDecided store meant old (Clear tree) Done new → ChangesMap store meant old tree (LosesFirst number) new
    clear_counts w = elim (there_before tree parts.parts (db_state store meant old) (db_state store meant new) parts.maps removed) [
      | inl none ↦
          let c = (w.decides (λ n. None) 0 0).1 in
          lost_first parts.parts parts.maps removed number parts.told c.named (ap (λ (s : State). s.trees tree.name) (sym none.1) ∙ c.there)
      | inr named ↦ lost_first parts.parts parts.maps removed number parts.told named.0 named.1
    ]

    pub clear_refuses : (e : Error) → WholeRefused store meant old (Clear tree) e new → RefusesClear store meant old tree number e new
    clear_refuses e w = record {
      may = (w.refuses (λ n. None) 0).may;
      is = elim (there_before tree parts.parts (db_state store meant old) (db_state store meant new) parts.maps removed) [
        | inl none ↦ inl (parts.told ∙ ap told_parts none.0, none.1)
        | inr named ↦ inr (lost_first parts.parts parts.maps removed number parts.told named.0 named.1)
      ];
    }

  pub clear_leaves : WholeDecided store meant old (Clear tree) Done new → LeavesMaps store meant (LackFirst store meant old tree) None old new
  clear_leaves w = let c = (w.decides (λ n. None) 0 0).1 in record { maps = w.maps; each = lack_first c.parts w.maps c.removes; leaves = w.leaves }

  pub clear_refused_leaves : (e : Error) → WholeRefused store meant old (Clear tree) e new → LeavesMaps store meant (LackFirst store meant old tree) None old new
  clear_refused_leaves e w = let s = w.refuses (λ n. None) 0 in record { maps = w.maps; each = lack_first s.parts w.maps s.removes; leaves = w.leaves }

pub clears_leave : {P M : Type 0} (store : P → Store) (meant : M → Merge) (old : DbValue P M) → IsDb store old → (tree : Tree) (new : DbValue P M) (r : Result (Unit {0}) Error) → OnOk r (WholeDecided store meant old (Clear tree) Done new) → IfErr r (λ e. WholeRefused store meant old (Clear tree) e new)
    → LeavesMaps store meant (LackFirst store meant old tree) None old new
clears_leave store meant old db tree new (Ok u) d w = clear_leaves store meant old db tree new d
clears_leave store meant old db tree new (Err e) d w = clear_refused_leaves store meant old db tree new e w

-- where the number is not returned
pub some_number : {A : Type 0} (p : ℕ → Error → Type 0) (n : ℕ) (r : Result A Error) → IfErr r (p n) → IfErr r (λ e. (number : ℕ) × p number e)
some_number p n (Ok a) k = tt
some_number p n (Err e) k = (n, k)

-- A tree that is dropped, as the database's.
use Rattle.std.proofs.Common.{◌≡◌, ◌≢◌, ℕ, suc, ◌+◌, ◌<◌, ◌≤◌, le_of_eq, Bool, true, false, not, cond, filter, nat_eq, List, [], ◌∷◌, ◌++◌, length, get_or, map, Option, Some, None, is_some, option_map, sym, refl, ap, ◌∙◌, subst, inl, inr, ◌⊎◌, append_assoc, append-nil, arith}
use Rattle.std.proofs.Math.Path.{fun_ext}
use Rattle.std.proofs.lemmas.Bool.{ne_eqb}
use Rattle.std.specs.FinMap.{nat_cmp-IsAntisymmetric}
use Rattle.std.specs.FinMap.Entries.{find, find-where_key, is_sorted}
use Rattle.std.specs.List.{AllByRecursion, IsDistinct, concat}
use Rattle.std.specs.Ordering.{nat_cmp, eq_by_cmp}
use Rattle.std.specs.Str.{bytes_eq}
use Rattle.sled_nodes.proofs.Basics.{none_some, some_is, false_true}
use Rattle.sled_store.specs.In.{In}
use Rattle.sled_nodes.specs.Order.{Key, key_cmp}
use Rattle.sled_nodes.specs.Node.{without, count}
use Rattle.sled_store.specs.Update.{put_name}
use Rattle.sled_store.specs.State.{State, nodes_of, RootBecomes, PageBecomes}
use Rattle.sled_store.specs.Store.{Store, now, after_action}
use Rattle.sled_store.specs.theory.Facts.{now_acted, put_here, put_elsewhere, same_name, name_itself, put_name_elsewhere}
use Rattle.sled_store.proofs.Roots.{root_out, out_ascends}
use Rattle.sled_nodes.specs.declared.node.Node.{Node}
use Rattle.sled_store.specs.declared.page.Page.{Page}
use Rattle.sled_nodes.specs.declared.error.Error.{Error}
use Rattle.sled_nodes.specs.declared.error.Error.TheVariants as error
use Rattle.sled_model.specs.Maps.{Map, Maps, Merge}
use Rattle.sled_model.specs.State.{CallInFlight, NamedTree, maps_of, default_name}
use Rattle.sled_model.specs.Refusal.{must_refuse, must_refuse_of, ToCall, cause_of_drop, may_refuse_as, first_of, IsClosed, cause_of}
use Rattle.sled_model.specs.Whole.{state_dropped, maps_if}
use Rattle.sled_model.specs.declared.call.Whole.TheVariants.{DropTree}
use Rattle.sled_model.specs.declared.reply.Reply.TheVariants.{Flag}
use Rattle.tree_laws.specs.Forest.{Tree, Forest, Place, place, IsSized, contents}
use Rattle.tree_laws.specs.Contents.{trees_of}
use Rattle.tree_laws.specs.Crashes.{AddsCrashStates}
use Rattle.tree_laws.specs.Snapshot.{Snapshot, snapshot_of, nodes_at, HasForest}
use Rattle.tree_laws.specs.theory.Snapshot.{Guarantee, GrowsByReceiving}
use Rattle.tree_laws.specs.theory.Laws.{after_drop}
use Rattle.tree_laws.specs.theory.MapLaws.{Dropped}
use Rattle.tree_laws.proofs.Crashing.{adds_acted, adds_extends, extends_then}
use Rattle.tree_laws.proofs.Mapped.{drops_law, well_law}
use Rattle.tree_laws.proofs.Reading.{one_law}
use Rattle.sled_tree.specs.Known.{IsKnown}
use Rattle.sled_tree.specs.StageAction.{ActsOnce}
use Rattle.sled_tree.specs.theory.StageAction.{is_action_refused_as}
use Rattle.sled_tree.specs.declared.flight.InFlight.{InFlight}
use Rattle.sled.specs.declared.TheConstants.{DEFAULT_TREE}
use Rattle.sled.specs.Values.{DbValue, numbers_of, given_to, named, state_of, db_state, snapshot_of_db}
use Rattle.sled_queues.specs.Values.{queue_at}
use Rattle.sled_queues.specs.Queues.{queues_of}
use Rattle.sled.specs.Sound.{IsDb}
use Rattle.tree_groups.specs.Writes.{PagesLast, ActsOften, NoAction, OneAction}
use Rattle.tree_groups.proofs.Writing.{number_given}
use Rattle.sled.specs.Flights.{StaysInChain, KeepsTreePages, IsStepRefused}
use Rattle.sled.specs.Direct.{ActsAndCounts, WholeDecided, WholeRefused}
use Rattle.tree_pages.specs.Drops.{IsBeginning}
use Rattle.sled.specs.Drops.{RemovesTree, DropsNamed, DropsTree, MightDrop, refuses_drop_as, RefusesDrop}
use Rattle.tree_pages.specs.theory.Drops.{FreesPages, FreesNone, FreesOne, Counts, FreesLevels, DropsRoot}
use Rattle.sled.proofs.Dropping.{known_on, off_chains, lasts_goes, lasts_then, Leaves, leaves_all}
use Rattle.sled.proofs.Conducting.{loses_once, leaves_none}
use Rattle.sled.proofs.Flushing.{same_state}
use Rattle.sled.proofs.Opening.{default_is}
use Rattle.sled.proofs.Numbering.{leaves_rests}
use Rattle.sled.proofs.Resting.{rests_same, rests_refused, rests_now}
use Rattle.sled.proofs.Trees.{trees_at, trees_same, maps_are}

-- ---- the actions, as a list

pub record Freed (was : Forest) (t : Tree) (freed : List ℕ) (a b : Store) : Type 0 where
  pub each : (p : ℕ) → In p freed → (h : ℕ) × In p (was.chain (place t h))
  pub there : (p : ℕ) → In p freed → (page : Page) × ((now a).pages p ≡ Some page)
  pub once : IsDistinct nat_eq freed
  pub faults : ℕ
  pub counts : a.faults ≤ faults
  pub is : b ≡ record a { recent = a.recent ++ map (λ p. PageBecomes p None) freed; actions = a.actions + length freed; faults = faults }

no_more : (x : ℕ) → x ≡ x + 0
no_more x = omega arith

one_more : (x n : ℕ) → (x + 1) + n ≡ x + suc n
one_more x n = omega arith

less_one : (x y : ℕ) → x + 1 ≤ y → x ≤ y
less_one x y l = omega arith

-- a page that is freed is not there then, and any other is as it was
gone_here : (p : ℕ) (a : Store) → (now (after_action (PageBecomes p None) a)).pages p ≡ None
gone_here p a = ap (λ (s : State). s.pages p) (now_acted (PageBecomes p None) a) ∙ put_here (now a).pages p None

off_freed : (p : ℕ) (a : Store) (q : ℕ) (page : Page) → (now (after_action (PageBecomes p None) a)).pages q ≡ Some page → q ≢ p
off_freed p a q page live e = none_some (sym (ap (now (after_action (PageBecomes p None) a)).pages e ∙ gone_here p a) ∙ live)

was_there : (p : ℕ) (a : Store) (q : ℕ) (page : Page) → (now (after_action (PageBecomes p None) a)).pages q ≡ Some page → (now a).pages q ≡ Some page
was_there p a q page live = sym (ap (λ (s : State). s.pages q) (now_acted (PageBecomes p None) a) ∙ put_elsewhere (now a).pages p q None (off_freed p a q page live)) ∙ live

all_off : (p : ℕ) (xs : List ℕ) → ((y : ℕ) → In y xs → y ≢ p) → AllByRecursion (λ y. nat_eq p y ≡ false) xs
all_off p [] off = tt
all_off p (y ∷ ys) off = (ne_eqb p y (λ e. off y (inl refl) (sym e)), all_off p ys (λ z i. off z (inr i)))

freed_of : {was : Forest} {t : Tree} {ps : List ℕ} {a b : Store} → FreesPages was t ps a b → Freed was t ps a b
unfolding IsDistinct
freed_of {a = a} FreesNone = record {
  each = λ p i. absurd i;
  there = λ p i. absurd i;
  once = tt;
  faults = a.faults;
  counts = le_of_eq refl;
  is = λ i. record a { recent = sym (append-nil a.recent) i; actions = no_more a.actions i };
}
freed_of {was} {t} {a = a} (FreesOne {ps = ps} p h page chained live rest) = let r = freed_of rest in record {
  each = λ q i. elim i [ inl e ↦ (h, subst (λ z. In z (was.chain (place t h))) (sym e) chained) | inr j ↦ r.each q j ];
  there = λ q i. elim i [ inl e ↦ (page, ap (now a).pages e ∙ live) | inr j ↦ let l = r.there q j in (l.0, was_there p a q l.0 l.1) ];
  once = (all_off p ps (λ q j. let l = r.there q j in off_freed p a q l.0 l.1), r.once);
  faults = r.faults;
  counts = r.counts;
  is = r.is ∙ (λ i. record a { recent = append_assoc a.recent (PageBecomes p None ∷ []) (map (λ z. PageBecomes z None) ps) i; actions = one_more a.actions (length ps) i; faults = r.faults });
}
freed_of {a = a} (Counts rest) = let r = freed_of rest in record {
  each = r.each;
  there = r.there;
  once = r.once;
  faults = r.faults;
  counts = less_one a.faults r.faults r.counts;
  is = r.is;
}

-- ---- the lists of trees and operators

pub numbers_without : (name : Key) (trees : List (Key × ℕ)) → numbers_of (without name trees) ≡ put_name (numbers_of trees) name None
unfolding key_cmp
numbers_without name trees = root_out name trees

ascends_without : (name : Key) (trees : List (Key × ℕ)) → is_sorted key_cmp trees ≡ true → is_sorted key_cmp (without name trees) ≡ true
unfolding key_cmp
ascends_without name trees h = out_ascends (λ x. not (eq_by_cmp key_cmp name x)) trees (without name trees) refl h

operators_without : {M : Type 0} (n k : ℕ) (operators : List (ℕ × M)) → k ≢ n → find nat_cmp k (filter (λ o. not (nat_eq o.0 n)) operators) ≡ find nat_cmp k operators
operators_without n k operators off =
    find-where_key nat_cmp (λ x. not (nat_eq x n)) k (λ x e. ap (λ y. not (nat_eq y n)) (sym (nat_cmp-IsAntisymmetric k x e))) operators
    ∙ ap (λ b. cond (not b) (find nat_cmp k operators) None) (ne_eqb k n off)

operators_ungiven : {M : Type 0} (n k : ℕ) (operators : List (ℕ × M)) → find nat_cmp k operators ≡ None → find nat_cmp k (filter (λ o. not (nat_eq o.0 n)) operators) ≡ None
operators_ungiven {M} n k operators none =
    find-where_key nat_cmp (λ x. not (nat_eq x n)) k (λ x e. ap (λ y. not (nat_eq y n)) (sym (nat_cmp-IsAntisymmetric k x e))) operators
    ∙ go (not (nat_eq k n)) (find nat_cmp k operators) none
  where
    go : (b : Bool) (o : Option M) → o ≡ None → cond b o None ≡ None
    go true o e = e
    go false o e = refl

-- ---- the drop of a tree that there is

module _ {P M : Type 0} (store : P → Store) (meant : M → Merge) (old : DbValue P M) (db : IsDb store old) (name : Key) where
  abbrev operator_old : ℕ → Option Merge
  operator_old n = option_map meant (find nat_cmp n old.operators)

  module _ (number : ℕ) (numbered : numbers_of old.trees name ≡ Some number) where
    named_there : (db_state store meant old).trees name ≡ Some (record { number = number; map = contents (nodes_of (now (store old.pages))) db.forest name; merge = operator_old number })
    named_there =
        ap (λ k. named k (trees_of (now (store old.pages)) name) operator_old) numbered
        ∙ ap (λ m. named (Some number) m operator_old)
        (trees_at (store old.pages) (numbers_of old.trees) (given_to old.trees_given) db.forest db.is name ∙ ap (option_map (λ _. contents (nodes_of (now (store old.pages))) db.forest name)) numbered)

    module _ (no_group : (now (store old.pages)).in_group ≡ false) (off : name ≢ default_name) (q : P) (drops : DropsRoot name (store old.pages) (store q)) where
      abbrev new : DbValue P M
      new = record old { pages = q; trees = without name old.trees; operators = filter (λ o. not (nat_eq o.0 number)) old.operators }

      abbrev m : Snapshot
      m = snapshot_of_db store old

      abbrev w : Forest
      w = db.forest

      abbrev mid : Store
      mid = after_action (RootBecomes name None) (store old.pages)

      abbrev numbers : Tree → Option ℕ
      numbers = put_name (numbers_of old.trees) name None

      abbrev given : ℕ → Bool
      given = given_to old.trees_given

      law : Dropped m w (after_drop m name) name
      law = drops_law m w name db.is

      now_mid : now mid ≡ (after_drop m name).state
      now_mid = now_acted (RootBecomes name None) (store old.pages)

      at_mid : snapshot_of mid numbers given ≡ after_drop m name
      at_mid = ap (λ (s : State). record { state = s; pids = mid.pids; versions = mid.versions; numbers = numbers; given = given }) now_mid

      mid_is : HasForest (snapshot_of mid numbers given) law.after
      mid_is = subst (λ (z : Snapshot). HasForest z law.after) (sym at_mid) law.steps.is

      mid_sized : IsSized (nodes_at (snapshot_of mid numbers given)) law.after
      mid_sized = subst (λ (z : Snapshot). IsSized (nodes_at z) law.after) (sym at_mid) (law.sized db.sized)

      mid_out : (now mid).in_group ≡ false
      mid_out = ap (λ (s : State). s.in_group) now_mid ∙ no_group

      mid_goes : Guarantee [] (Some name) m w (snapshot_of mid numbers given) law.after
      mid_goes = subst (λ (z : Snapshot). Guarantee [] (Some name) m w z law.after) (sym at_mid) law.steps.goes

      same_nodes : (p : ℕ) → nodes_of (now mid) p ≡ nodes_of (now (store old.pages)) p
      same_nodes p = ap (λ (s : State). nodes_of s p) now_mid

      mid_grows : GrowsByReceiving (nodes_at m) (nodes_at (snapshot_of mid numbers given)) w
      mid_grows = record { grows = λ x p a b i was is. inl (le_of_eq (ap (λ (z : Node). count z.content) (some_is (sym is ∙ same_nodes p ∙ was)))) }

      levels : FreesLevels w name (drops.is w db.is.formed db.is.below).0 mid (store q)
      levels = (drops.is w db.is.formed db.is.below).1

      rest : Leaves numbers given w law.after name (λ p h i. (law.left h).stray p i) mid (store q)
      rest = leaves_all numbers given w law.after name (λ p h i. (law.left h).stray p i) levels.freed mid_is mid_sized mid_out

      at_new : snapshot_of_db store new ≡ snapshot_of (store q) numbers given
      at_new = ap (λ ns. snapshot_of (store q) ns given) (numbers_without name old.trees)

      new_is : HasForest (snapshot_of_db store new) law.after
      new_is = subst (λ (z : Snapshot). HasForest z law.after) (sym at_new) rest.is

      maps_mid : trees_of (now (store q)) ≡ trees_of (now mid)
      maps_mid = trees_same mid (store q) numbers given law.after law.after mid_is rest.is rest.same

      extends_new : AddsCrashStates (maps_of (db_state store meant new) ∷ []) (store old.pages) (store q)
      extends_new = subst (λ (z : Maps). AddsCrashStates (z ∷ []) (store old.pages) (store q)) (sym (maps_are store meant new law.after new_is ∙ maps_mid))
          (extends_then (adds_extends (adds_acted (RootBecomes name None) (store old.pages)) mid_out (well_law (snapshot_of mid numbers given) law.after mid_is mid_sized)) rest.extends)

      marked : (store q).mark ≡ (store old.pages).mark
      marked = rest.mark

      db_new : IsDb store new
      db_new = record {
        forest = law.after;
        is = new_is;
        sized = subst (λ (z : Snapshot). IsSized (nodes_at z) law.after) (sym at_new) rest.sized;
        safe = extends_new.safe db.safe;
        ascends = ascends_without name old.trees db.ascends;
        default = (db.default.0, ap (λ f. f default_name) (numbers_without name old.trees) ∙ put_name_elsewhere (numbers_of old.trees) name default_name None (λ e. off (sym e)) ∙ db.default.1);
        ungiven = λ k above. operators_ungiven number k old.operators (db.ungiven k above);
        calm = db.calm;
        ids = subst (λ n. old.greatest_id ≤ n) (sym marked) db.ids;
      }

      abbrev operator_new : ℕ → Option Merge
      operator_new n = option_map meant (find nat_cmp n (filter (λ o. not (nat_eq o.0 number)) old.operators))

      trees_new : (λ t. named (numbers_of (without name old.trees) t) (trees_of (now (store q)) t) (λ n. option_map meant (find nat_cmp n (filter (λ o. not (nat_eq o.0 number)) old.operators)))) ≡ put_name (db_state store meant old).trees name None
      trees_new = fun_ext (λ t. go t (bytes_eq t name) refl)
        where
          number_at : (t : Key) → numbers_of (without name old.trees) t ≡ put_name (numbers_of old.trees) name None t
          number_at t = ap (λ f. f t) (numbers_without name old.trees)

          same_merge : (t : Key) → t ≢ name → (k : Option ℕ) → numbers_of old.trees t ≡ k → (z : Option Map) → named k z operator_new ≡ named k z operator_old
          same_merge t other None e z = refl
          same_merge t other (Some n) e None = refl
          same_merge t other (Some n) e (Some z) = ap (λ o. Some (record { number = n; map = z; merge = option_map meant o })) (operators_without number n old.operators (λ s. other (db.is.apart t name n e (numbered ∙ ap Some (sym s)))))

          go : (t : Key) (b : Bool) → bytes_eq t name ≡ b → named (numbers_of (without name old.trees) t) (trees_of (now (store q)) t) operator_new ≡ cond (bytes_eq t name) None ((db_state store meant old).trees t)
          go t true e =
              ap (λ k. named k (trees_of (now (store q)) t) operator_new) (number_at t ∙ ap (λ b. cond b None (numbers_of old.trees t)) e)
              ∙ sym (ap (λ b. cond b None ((db_state store meant old).trees t)) e)
          go t false e =
              let other : t ≢ name = λ s. false_true (sym e ∙ ap (λ z. bytes_eq z name) s ∙ name_itself name) in
              ap (λ k. named k (trees_of (now (store q)) t) operator_new) (number_at t ∙ ap (λ b. cond b None (numbers_of old.trees t)) e)
              ∙ ap (λ z. named (numbers_of old.trees t) z operator_new) (ap (λ (f : Maps). f t) maps_mid ∙ ap (λ (s : State). trees_of s t) now_mid ∙ law.map_others t other)
              ∙ same_merge t other (numbers_of old.trees t) refl (trees_of (now (store old.pages)) t)
              ∙ sym (ap (λ b. cond b None ((db_state store meant old).trees t)) e)

      state_new : (slots : ℕ → Option CallInFlight) (slots_given : ℕ) → state_of store meant new slots slots_given ≡ record (state_of store meant old slots slots_given) { trees = put_name (db_state store meant old).trees name None }
      state_new slots slots_given i = record {
        name = old.name;
        trees = trees_new i;
        queues = queues_of (queue_at old.queues);
        slots = slots;
        is_open = not (out i);
        greatest_id = old.greatest_id;
        mark = marked i;
        trees_given = old.trees_given;
        slots_given = slots_given;
        subscribers_given = old.queues.given;
      }
        where
          out : (now (store q)).in_group ≡ (now (store old.pages)).in_group
          out = rest.no_group ∙ sym no_group

      others_new : (h : InFlight) → IsKnown m h → IsKnown (snapshot_of_db store new) h
      others_new h k = subst (λ (z : Snapshot). IsKnown z h) (sym at_new) (rest.others h (λ p i own chained. off_chains db.is h k (place name i) p own chained) (known_on db.is mid_is mid_goes mid_grows h (λ p own none. none) k))

      lasts_new : PagesLast m (snapshot_of (store q) numbers given)
      lasts_new = lasts_then (number_given _ _ db.is) (lasts_goes mid_goes) rest.last

      loses_new : KeepsTreePages (Some name) m (snapshot_of_db store new)
      loses_new u z was is =
          subst (λ (f : Forest). StaysInChain (Some name) m f (snapshot_of_db store new) z) (one_law (nodes_at m) m.state.roots w u db.is.formed was.formed)
          (subst (λ (f : Forest). StaysInChain (Some name) m w (snapshot_of_db store new) f) (one_law (nodes_at (snapshot_of_db store new)) (snapshot_of_db store new).state.roots law.after z new_is.formed is.formed)
          (subst (λ (n : Snapshot). StaysInChain (Some name) m w n law.after) (sym at_new) (record {
            is = λ x p on i.
                let home = db.is.formed.homed x p i in
                let here = db.is.formed.page x p home in
                let s = mid_goes.keeps.stood x p here.0 on i here.1.live in
                elim s.3 [
                  | inl c ↦ inl c
                  | inr b ↦ inr (s.0, rest.untouched p (λ k chained. on (ap (λ (y : Place). Some y.tree) (some_is (sym (db.is.formed.homed (place name k) p chained) ∙ home)))) ∙ s.1, b)
                ];
            last = lasts_new;
          })))

      removes_new : RemovesTree name m (store old.pages) (store q)
      removes_new =
          let r = freed_of levels.freed in record {
            levels = levels.levels;
            begins = λ u was h. subst (λ (f : Forest). IsBeginning (get_or levels.levels h []) (f.chain (place name h))) (one_law (nodes_at m) m.state.roots w u db.is.formed was.formed) (levels.begins h);
            each = λ u was p i. subst (λ (f : Forest). (h : ℕ) × In p (f.chain (place name h))) (one_law (nodes_at m) m.state.roots w u db.is.formed was.formed) (r.each p i);
            once = r.once;
            faults = r.faults;
            counts = r.counts;
            is = r.is ∙ (λ i. record (store old.pages) { recent = append_assoc (store old.pages).recent (RootBecomes name None ∷ []) (map (λ z. PageBecomes z None) (concat levels.levels)) i; actions = one_more (store old.pages).actions (length (concat levels.levels)) i; faults = r.faults });
          }

      pub dropped_tree : DropsTree store meant old name true new
      dropped_tree = record {
        free = ap (λ b. first_of (cond (not b) None (Some IsClosed)) None) no_group;
        off = off;
        is = record {
          tree = record { number = number; map = contents (nodes_of (now (store old.pages))) db.forest name; merge = operator_old number };
          there = named_there;
          state = state_new;
          same = refl;
          removes = removes_new;
          extends = extends_new;
          others = others_new;
          loses = loses_new;
          sound = λ d. db_new;
        };
      }

      pub dropped_db : IsDb store new
      dropped_db = db_new

    -- refused before the root goes
    module _ (no_group : (now (store old.pages)).in_group ≡ false) (off : name ≢ default_name) (q : P) where
      might : MightDrop store meant old name
      might = record { free = ap (λ b. first_of (cond (not b) None (Some IsClosed)) None) no_group; off = off; tree = _; there = named_there }

      refused_as : (e : Error) → is_action_refused_as e (store old.pages) (store q) → refuses_drop_as store meant old name e q
      refused_as error.NoMemory t = (might, t)
      refused_as (error.Io fault) t = (might, t)
      refused_as other t = absurd t

      pub refused_drop : (e : Error) → is_action_refused_as e (store old.pages) (store q) → RefusesDrop store meant old name e (record old { pages = q })
      refused_drop e t = let r = rests_refused e (store old.pages) (store q) t in record {
        is = refused_as e t;
        same = refl;
        state = λ slots given. same_state store meant old q (rests_now r) slots given;
        leaves = leaves_rests store meant old q r;
      }

  -- by a test
  pub untouched_drop : (e : Error) → refuses_drop_as store meant old name e old.pages → RefusesDrop store meant old name e old
  untouched_drop e t = record {
    is = t;
    same = refl;
    state = λ slots given. refl;
    leaves = leaves_rests store meant old old.pages (rests_same refl);
  }

  -- a name without a tree
  pub no_tree : numbers_of old.trees name ≡ None → (now (store old.pages)).in_group ≡ false → name ≢ default_name → DropsTree store meant old name false old
  no_tree none no_group off = record {
    free = ap (λ b. first_of (cond (not b) None (Some IsClosed)) None) no_group;
    off = off;
    is = (ap (λ k. named k (trees_of (now (store old.pages)) name) operator_old) none, refl);
  }

-- ---- the same, where the method knows the database by its fields, and the names by their bytes

pub not_default : (b : Bool) (name bytes : Key) → b ≡ bytes_eq name bytes → b ≡ false → bytes ≡ DEFAULT_TREE.now → name ≢ default_name
not_default b name bytes e other d s = false_true (sym other ∙ e ∙ ap (bytes_eq name) (d ∙ default_is) ∙ ap (λ z. bytes_eq z default_name) s ∙ name_itself default_name)

pub is_default : (b : Bool) (name bytes : Key) → b ≡ bytes_eq name bytes → b ≡ true → bytes ≡ DEFAULT_TREE.now → name ≡ default_name
is_default b name bytes e same d = same_name name bytes (sym e ∙ same) ∙ d ∙ default_is

pub numbered_as : (found : Option ℕ) (number : ℕ) (name : Key) (trees all : List (Key × ℕ)) → found ≡ find key_cmp name trees → trees ≡ all → found ≡ Some number → numbers_of all name ≡ Some number
numbered_as found number name trees all e same is = ap (find key_cmp name) (sym same) ∙ sym e ∙ is

module _ {P M : Type 0} (store : P → Store) (meant : M → Merge) (inside old : DbValue P M) (same : inside ≡ old) (db : IsDb store inside) (name : Key) where
  pub untouched_as : (e : Error) → refuses_drop_as store meant inside name e inside.pages → RefusesDrop store meant old name e old
  untouched_as e t = subst (λ (z : DbValue P M). RefusesDrop store meant z name e z) same (untouched_drop store meant inside db name e t)

  pub open_as : (now (store inside.pages)).in_group ≡ false → must_refuse_of (db_state store meant inside) [] ≡ None
  open_as no_group = ap (λ b. first_of (cond (not b) None (Some IsClosed)) None) no_group

  module _ (number : ℕ) (numbered : numbers_of inside.trees name ≡ Some number) (no_group : (now (store inside.pages)).in_group ≡ false) (off : name ≢ default_name) (q : P) where
    pub refused_drop_as : (e : Error) → is_action_refused_as e (store inside.pages) (store q) → RefusesDrop store meant old name e (record inside { pages = q })
    refused_drop_as e t = subst (λ (z : DbValue P M). RefusesDrop store meant z name e (record inside { pages = q })) same (refused_drop store meant inside db name number numbered no_group off q e t)

    module _ (trees : List (Key × ℕ)) (operators : List (ℕ × M)) (left : trees ≡ without name inside.trees) (kept : operators ≡ filter (λ o. not (nat_eq o.0 number)) inside.operators) (drops : DropsRoot name (store inside.pages) (store q)) where
      is_new : record inside { pages = q; trees = without name inside.trees; operators = filter (λ o. not (nat_eq o.0 number)) inside.operators } ≡ record inside { pages = q; trees = trees; operators = operators }
      is_new i = record inside { pages = q; trees = sym left i; operators = sym kept i }

      pub dropped_as : DropsTree store meant old name true (record inside { pages = q; trees = trees; operators = operators })
      dropped_as = subst (λ (z : DbValue P M). DropsTree store meant z name true (record inside { pages = q; trees = trees; operators = operators })) same
          (subst (λ (z : DbValue P M). DropsTree store meant inside name true z) is_new (dropped_tree store meant inside db name number numbered no_group off q drops))

      pub dropped_db_as : IsDb store (record inside { pages = q; trees = trees; operators = operators })
      dropped_db_as = subst (λ (z : DbValue P M). IsDb store z) is_new (dropped_db store meant inside db name number numbered no_group off q drops)

-- ---- a drop as a whole call

acts_once : (p : ℕ) (a : Store) → ActsOnce a (after_action (PageBecomes p None) a)
acts_once p a = record {
  action = PageBecomes p None;
  pids = a.pids;
  versions = a.versions;
  is = refl;
  pids_stay = λ q e. e;
  versions_stay = λ v e. e;
  no_group = ap (λ (s : State). s.in_group) (now_acted (PageBecomes p None) a);
}

frees_often : (freed : List ℕ) (a : Store) → ActsOften a (record a { recent = a.recent ++ map (λ p. PageBecomes p None) freed; actions = a.actions + length freed })
frees_often [] a = subst (λ (z : Store). ActsOften a z) (λ i. record a { recent = sym (append-nil a.recent) i; actions = no_more a.actions i }) NoAction
frees_often (p ∷ ps) a = OneAction (acts_once p a) (
    subst (λ (z : Store). ActsOften (after_action (PageBecomes p None) a) z) (λ i. record a { recent = append_assoc a.recent (PageBecomes p None ∷ []) (map (λ z. PageBecomes z None) ps) i; actions = one_more a.actions (length ps) i }) (frees_often ps (after_action (PageBecomes p None) a))
    )

removes_often : (name : Key) (freed : List ℕ) (a : Store) → ActsOften a (record a { recent = a.recent ++ RootBecomes name None ∷ map (λ p. PageBecomes p None) freed; actions = a.actions + suc (length freed) })
removes_often name freed a = OneAction
    (record {
      action = RootBecomes name None;
      pids = a.pids;
      versions = a.versions;
      is = refl;
      pids_stay = λ q e. e;
      versions_stay = λ v e. e;
      no_group = ap (λ (s : State). s.in_group) (now_acted (RootBecomes name None) a);
    })
    (subst (λ (z : Store). ActsOften (after_action (RootBecomes name None) a) z) (λ i. record a { recent = append_assoc a.recent (RootBecomes name None ∷ []) (map (λ z. PageBecomes z None) freed) i; actions = one_more a.actions (length freed) i }) (frees_often freed (after_action (RootBecomes name None) a)))

removes_acts : (name : Key) (m : Snapshot) (a b : Store) → RemovesTree name m a b → ActsAndCounts a b
removes_acts name m a b r = record {
  last = record a { recent = a.recent ++ RootBecomes name None ∷ map (λ p. PageBecomes p None) (concat r.levels); actions = a.actions + suc (length (concat r.levels)) };
  acts = removes_often name (concat r.levels) a;
  counts = subst (λ n. a.faults ≤ n) (sym (ap (λ (s : Store). s.faults) r.is)) r.counts;
  is = r.is ∙ (λ i. record a { recent = a.recent ++ RootBecomes name None ∷ map (λ p. PageBecomes p None) (concat r.levels); actions = a.actions + suc (length (concat r.levels)); faults = sym (ap (λ (s : Store). s.faults) r.is) i });
}

module _ {P M : Type 0} (store : P → Store) (meant : M → Merge) (old new : DbValue P M) (name : Key) where
  dropped_whole : must_refuse_of (db_state store meant old) [] ≡ None → name ≢ default_name → DropsNamed store meant old name new → WholeDecided store meant old (DropTree name) (Flag true) new
  dropped_whole free off d = record {
    maps = maps_of (db_state store meant new) ∷ [];
    decides = λ slots given number. record {
      free = ap (λ o. first_of o None) free;
      off = off;
      replies = ap (λ o. Flag (is_some o)) (sym d.there);
      is = d.state slots given ∙ ap (λ o. state_dropped o (state_of store meant old slots given) name) (sym d.there);
      added = ap (λ (o : Option NamedTree). maps_if (is_some o) (state_of store meant new slots given)) (sym d.there);
    };
    acts = removes_acts name (snapshot_of_db store old) (store old.pages) (store new.pages) d.removes;
    leaves = record { extends = d.extends; others = d.others; loses = loses_once (Some name) (snapshot_of_db store old) (snapshot_of_db store new) d.loses; sound = d.sound };
    same = d.same ∙ (λ i. record old { pages = new.pages; trees = sym (ap (λ (z : DbValue P M). z.trees) d.same) i; operators = sym (ap (λ (z : DbValue P M). z.operators) d.same) i });
  }

  nothing_dropped : must_refuse_of (db_state store meant old) [] ≡ None → name ≢ default_name → (db_state store meant old).trees name ≡ None → WholeDecided store meant old (DropTree name) (Flag false) old
  nothing_dropped free off none = record {
    maps = [];
    decides = λ slots given number. record {
      free = ap (λ o. first_of o None) free;
      off = off;
      replies = ap (λ o. Flag (is_some o)) (sym none);
      is = ap (λ o. state_dropped o (state_of store meant old slots given) name) (sym none);
      added = ap (λ (o : Option NamedTree). maps_if (is_some o) (state_of store meant old slots given)) (sym none);
    };
    acts = record { last = store old.pages; acts = NoAction; counts = le_of_eq refl; is = refl };
    leaves = leaves_none store meant old;
    same = refl;
  }

  pub drop_decided : (dropped : Bool) → DropsTree store meant old name dropped new → WholeDecided store meant old (DropTree name) (Flag dropped) new
  drop_decided true d = dropped_whole d.free d.off d.is
  drop_decided false d = subst (λ (z : DbValue P M). WholeDecided store meant old (DropTree name) (Flag false) z) (sym d.is.1) (nothing_dropped d.free d.off d.is.0)

  -- no test refuses an open database
  must_not : must_refuse_of (db_state store meant old) [] ≡ None → (slots : ℕ → Option CallInFlight) (given : ℕ) → must_refuse (state_of store meant old slots given) (ToCall (DropTree name)) ≡ None
  must_not free slots given = ap (λ o. first_of o None) free

  undropped : (e : Error) → RefusesDrop store meant old name e new → must_refuse_of (db_state store meant old) [] ≡ None → cause_of_drop (db_state store meant old) (store old.pages) (store new.pages) name e → IsStepRefused e (store old.pages) (store new.pages)
      → WholeRefused store meant old (DropTree name) e new
  undropped e r free cause acts = record {
    maps = [];
    refuses = λ slots given. (record { is = subst (λ o. may_refuse_as o (cause_of (state_of store meant old slots given) (store old.pages) (store new.pages) (ToCall (DropTree name))) e) (sym (must_not free slots given)) (at e cause slots given) }, r.state slots given, refl);
    acts = acts;
    leaves = r.leaves;
    same = r.same;
    tested = λ must. absurd (must (must_not free (λ n. None) 0));
  }
    where
      at : (e : Error) → cause_of_drop (db_state store meant old) (store old.pages) (store new.pages) name e → (slots : ℕ → Option CallInFlight) (given : ℕ) → cause_of_drop (state_of store meant old slots given) (store old.pages) (store new.pages) name e
      at error.NoMemory k slots given = k
      at (error.Io fault) k slots given = k
      at (error.Unsupported text) k slots given = k
      at other k slots given = absurd k

  there_is : MightDrop store meant old name → (db_state store meant old).trees name ≢ None
  there_is m none = none_some (sym none ∙ m.there)

  pub drop_refused : (e : Error) → RefusesDrop store meant old name e new → WholeRefused store meant old (DropTree name) e new
  drop_refused error.NoMemory r = let k = r.is in undropped error.NoMemory r k.0.free (k.0.off, there_is k.0) k.1
  drop_refused (error.Io fault) r = let k = r.is in undropped (error.Io fault) r k.0.free (k.0.off, there_is k.0, faulted k.1) k.1
    where
      more : (store new.pages).faults ≡ (store old.pages).faults + 1 → (store old.pages).faults < (store new.pages).faults
      more e = omega arith

      faulted : IsStepRefused (error.Io fault) (store old.pages) (store new.pages) → ((store old.pages).faults < (store new.pages).faults) ⊎ ((pid : ℕ) × ((store old.pages).is_readable pid ≡ false))
      faulted (inl e) = inl (more (ap (λ (s : Store). s.faults) e))
      faulted (inr (e, p)) = inr p
  drop_refused (error.Unsupported text) r = let k = r.is in undropped (error.Unsupported text) r k.0 (k.1, k.2) (ap store k.3)
  drop_refused (error.CollectionNotFound text) r = absurd r.is
  drop_refused (error.ReportableBug text) r = absurd r.is
  drop_refused (error.Corruption fault) r = absurd r.is
  drop_refused error.Closed r = record {
    maps = [];
    refuses = λ slots given. (record { is = subst (λ o. may_refuse_as o (cause_of (state_of store meant old slots given) (store old.pages) (store new.pages) (ToCall (DropTree name))) error.Closed) (sym (ap (λ b. first_of (first_of (cond (not b) None (Some IsClosed)) None) None) r.is.0)) refl }, r.state slots given, refl);
    acts = ap store r.is.1;
    leaves = r.leaves;
    same = r.same;
    tested = λ must. r.same ∙ ap (λ q. record old { pages = q }) r.is.1;
  }

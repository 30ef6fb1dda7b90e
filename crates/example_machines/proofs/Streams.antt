-- Streams of events: what an append, an opening and a read come to.
use Rattle.std.proofs.Common.{◌≡◌, ℕ, ◌+◌, ◌<◌, ◌≤◌, ◌^◌, Bool, true, false, not, ◌&&◌, nat_le, map, filter, List, [], ◌∷◌, ◌++◌, Option, Some, None, Less, Equal, Greater, le_of_eq, sym, refl, ap, ◌∙◌, subst, inl, inr, arith}
use Rattle.std.proofs.Math.Path.{fun_ext}
use Rattle.std.specs.Cmp.{nat_cmp_is}
use Rattle.std.specs.FinMap.Entries.{find, put}
use Rattle.std.specs.List.{AllByRecursion}
use Rattle.std.specs.Ordering.{is_lt, nat_cmp, ordering_then}
use Rattle.std.specs.declared.ops.Bound.TheVariants.{Included, Unbounded}
use Rattle.std.proofs.lemmas.Bool.{cases_lt}
use Rattle.std.proofs.lemmas.Bool.Decides.{nat_tests}
use Rattle.std.proofs.lemmas.List.{map-append}
use Rattle.ordered_keys.specs.Keys.{spelled, parts_cmp}
use Rattle.ordered_keys.specs.declared.part.Kind.TheVariants as kind
use Rattle.ordered_keys.specs.declared.part.Part.TheVariants.{Number}
use Rattle.sled_nodes.specs.Order.{Key, key_cmp, Below}
use Rattle.sled_store.specs.Store.{Store}
use Rattle.sled_nodes.specs.declared.error.Error.{Error}
use Rattle.sled_model.specs.Maps.{Maps, Merge}
use Rattle.sled_model.specs.State.{maps_of}
use Rattle.sled_model.specs.Whole.{RefusesPoint}
use Rattle.sled_model.specs.declared.call.Call.TheVariants.{Insert}
use Rattle.sled_model.specs.declared.call.Whole.TheVariants.{OpenTree}
use Rattle.sled_model.specs.declared.reply.Reply.TheVariants as told
use Rattle.sled_model.specs.declared.tree.Tree.{Tree}
use Rattle.sled.specs.Direct.{Conducts, WholeDecided, WholeRefused}
use Rattle.sled.specs.Promises.{ChangesMap}
use Rattle.sled.specs.Ids.{GivesId, RefusesId}
use Rattle.sled.specs.Values.{DbValue, db_state}
use Rattle.example_parts.specs.Reads.{maps_now}
use Rattle.typed_map.specs.Typed.{Spelling, by_parts, as_it_is, pairs_in, IsTyped, Walks, IsForeign}
use Rattle.typed_map.specs.theory.Spelling.{number_order}
use Rattle.example_databases.proofs.Queueing.{last}
use Rattle.example_databases.proofs.Opening.{opened_now}
use Rattle.example_machines.specs.Events.{Event, pairs_of, HasEvents, KeepsStreams, OpensStream, Appends, ReadsFrom}
use Rattle.machine_alone.specs.Ids.{RiseBetween}
use Rattle.machine_alone.proofs.Rising.{rise_on}

-- ---- ids and their bytes

abbrev pub number : Spelling ℕ
number = by_parts (kind.Number ∷ []) (λ n. Number n ∷ [])

below_key : (a b : ℕ) → a < 2 ^ 64 → b < 2 ^ 64 → a < b → Below (spelled (Number a ∷ [])) (spelled (Number b ∷ []))
below_key a b i j l = number_order a b (i, tt) (j, tt) ∙ ap (λ o. ordering_then o Equal) (sym (nat_cmp_is a b Less l))

rise_end : (low : ℕ) (ids : List ℕ) (high : ℕ) → RiseBetween low ids high → low ≤ high
rise_end low [] high r = r
rise_end low (id ∷ ids) high r = let first = r.0 in let last = rise_end id ids high r.1 in omega arith

all_below : (low high id : ℕ) (events : List Event) → RiseBetween low (map (λ e. e.0) events) high → AllByRecursion (λ e. e.0 < 2 ^ 64) events → high < id → id < 2 ^ 64 → AllByRecursion (λ e. Below e.0 (spelled (Number id ∷ []))) (pairs_of events)
all_below low high id [] r fit l i = tt
all_below low high id (e ∷ es) r fit l i = (below_key e.0 id fit.0 i (under (rise_end e.0 (map (λ z. z.0) es) high r.1)), all_below e.0 high id es r.1 fit.1 l i)
  where
    under : e.0 ≤ high → e.0 < id
    under m = omega arith

all_more : (events : List Event) (e : Event) → AllByRecursion (λ z. z.0 < 2 ^ 64) events → e.0 < 2 ^ 64 → AllByRecursion (λ z. z.0 < 2 ^ 64) (events ++ e ∷ [])
all_more [] e fit i = (i, tt)
all_more (x ∷ xs) e fit i = (fit.0, all_more xs e fit.1 i)

-- ---- appending

module _ {P M : Type 0} (store : P → Store) (meant : M → Merge) (old mid : DbValue P M) where
  pub keeps_unnumbered : (e : Error) → RefusesId store meant old e mid → KeepsStreams store meant old mid
  keeps_unnumbered e r = record { maps = ap maps_of (r.state (λ n. None) 0); ids = le_of_eq (sym (ap (λ (d : DbValue P M). d.greatest_id) r.same)) }

  module _ (id : ℕ) (g : GivesId store meant old id mid) where
    same_maps : maps_now store meant mid ≡ maps_now store meant old
    same_maps = ap maps_of (g.state (λ n. None) 0)

    given_id : mid.greatest_id ≡ id
    given_id = ap (λ (d : DbValue P M). d.greatest_id) g.same

    rises : old.greatest_id ≤ mid.greatest_id
    rises = more (given_id ∙ g.next)
      where
        more : mid.greatest_id ≡ old.greatest_id + 1 → old.greatest_id ≤ mid.greatest_id
        more e = omega arith

    pub keeps_unspelled : KeepsStreams store meant old mid
    keeps_unspelled = record { maps = same_maps; ids = rises }

    module _ (new : DbValue P M) (stream : Tree) (key bytes : Key) where
      pub keeps_unwritten : (e : Error) → RefusesPoint (db_state store meant mid) (store mid.pages) (store new.pages) stream (Insert key bytes) e (db_state store meant new) → Conducts store [] (Some e) mid new → KeepsStreams store meant old new
      keeps_unwritten e refuses leaves = record { maps = ap maps_of refuses.is ∙ same_maps; ids = subst (λ n. old.greatest_id ≤ n) (sym (ap (λ (d : DbValue P M). d.greatest_id) leaves.same)) rises }

      module _ (stood : Option Key) (c : ChangesMap store meant mid stream (λ before after. (stood ≡ find key_cmp key before) × (after ≡ put key_cmp key bytes before)) new) (leaves : Conducts store (maps_now store meant new ∷ []) None mid new) where
        given_then : new.greatest_id ≡ id
        given_then = ap (λ (d : DbValue P M). d.greatest_id) leaves.same ∙ given_id

        some_is : {X : Type 0} {x y : X} → Some x ≡ Some y → x ≡ y
        some_is e = cc

        over : old.greatest_id < id
        over = more g.next
          where
            more : id ≡ old.greatest_id + 1 → old.greatest_id < id
            more e = omega arith

        pub appends : key ≡ spelled (Number id ∷ []) → id < 2 ^ 64 → Appends store meant old stream.name id bytes new
        appends at fits = record {
          next = g.next;
          given = given_then;
          behind = λ events h.
              let named : c.before ≡ pairs_of events = some_is (sym c.was ∙ ap (λ (m : Maps). m stream.name) same_maps ∙ h.pairs) in
              let below = all_below 0 old.greatest_id id events h.rise h.fit over fits in record {
                pairs = c.becomes ∙ ap Some (
                    c.is.1
                    ∙ ap (put key_cmp key bytes) named
                    ∙ ap (λ k. put key_cmp k bytes (pairs_of events)) at
                    ∙ last (spelled (Number id ∷ [])) bytes (pairs_of events) below
                    ∙ sym (map-append (λ (e : Event). (spelled (Number e.0 ∷ []), e.1)) events ((id, bytes) ∷ []))
                    );
                rise = subst (λ n. RiseBetween 0 (map (λ e. e.0) (events ++ (id, bytes) ∷ [])) n) (sym given_then)
                    (subst (λ l. RiseBetween 0 l id) (sym (map-append (λ (e : Event). e.0) events ((id, bytes) ∷ []))) (rise_on 0 old.greatest_id id (map (λ e. e.0) events) (id ∷ []) h.rise (over, le_of_eq refl)));
                fit = all_more events (id, bytes) h.fit fits;
              };
          others = λ other off. c.others other off ∙ ap (λ (m : Maps). m other) same_maps;
        }

-- ---- opening

module _ {P M : Type 0} (store : P → Store) (meant : M → Merge) (old new : DbValue P M) (name : Key) where
  pub keeps_unopened : (e : Error) → WholeRefused store meant old (OpenTree name) e new → KeepsStreams store meant old new
  keeps_unopened e w = record { maps = ap maps_of (w.refuses (λ n. None) 0).1; ids = le_of_eq (sym (ap (λ (d : DbValue P M). d.greatest_id) w.same)) }

  pub opens : (stream : Tree) → WholeDecided store meant old (OpenTree name) (told.Tree stream) new → OpensStream store meant old name stream new
  opens stream w = let o = w.decides (λ n. None) 0 0 in record {
    named = tree_is o.replies;
    maps = opened_now store meant old new name stream w;
    ids = ap (λ (d : DbValue P M). d.greatest_id) w.same;
  }
    where
      tree_is : {a b : Tree} → told.Tree a ≡ told.Tree b → a.name ≡ b.name
      tree_is {a} {b} e = let f : a ≡ b = cc in ap (λ (t : Tree). t.name) f

-- ---- reading

in_bound : (k from : ℕ) → not (is_lt (parts_cmp (Number k ∷ []) (Number from ∷ []))) && true ≡ nat_le from k
in_bound k from = elim (cases_lt k from) [
  | inl less ↦ told_by Less (nat_cmp_is k from Less less) ∙ sym (not_up less)
  | inr up ↦ elim (cases_lt from k) [
    | inl more ↦ told_by Greater (nat_cmp_is k from Greater more) ∙ sym (is_up up)
    | inr down ↦ told_by Equal (nat_cmp_is k from Equal (omega arith)) ∙ sym (is_up up)
  ]
]
  where
    told_by : (o : Rattle.std.specs.declared.cmp.Ordering.Ordering) → o ≡ nat_cmp k from → not (is_lt (parts_cmp (Number k ∷ []) (Number from ∷ []))) && true ≡ not (is_lt (ordering_then o Equal)) && true
    told_by o e = ap (λ z. not (is_lt (ordering_then z Equal)) && true) (sym e)

    not_up : k < from → nat_le from k ≡ false
    not_up l = grind (arith, nat_tests)

    is_up : from ≤ k → nat_le from k ≡ true
    is_up l = grind (arith, nat_tests)

values_of : (events : List Event) → AllByRecursion (λ e. e.0 < 2 ^ 64) events → AllByRecursion (λ e. number.is_value e.0 × as_it_is.is_value e.1) events
values_of [] fit = tt
values_of (e ∷ es) fit = (((fit.0, tt), tt), values_of es fit.1)

module _ {P M : Type 0} (store : P → Store) (meant : M → Merge) (d : DbValue P M) (stream : Key) where
  typed_of : (events : List Event) → HasEvents store meant d stream events → IsTyped number as_it_is (pairs_in (maps_now store meant d stream)) events
  typed_of events h = record { is = ap pairs_in h.pairs; are_values = values_of events h.fit }

  pub reads_from : (from : ℕ) (found : List Event) → Walks number as_it_is (maps_now store meant d) stream (Included from) Unbounded found → ReadsFrom store meant d stream from found
  reads_from from found w = record { is = λ events h. w.are events (typed_of events h) ∙ ap (λ (p : Event → Bool). filter p events) (fun_ext (λ e. in_bound e.0 from)) }

  pub reads_foreign : IsForeign number as_it_is (maps_now store meant d) stream → (events : List Event) → HasEvents store meant d stream events → ⊥
  reads_foreign f events h = f.is events (typed_of events h)

-- What entries behind a beginning have within a range, by what their rests have within another one.
use Rattle.std.proofs.Common.{◌≡◌, ℕ, Bool, true, false, ◌&&◌, cond, List, [], ◌∷◌, ◌++◌, length, filter, reverse, Option, Some, None, refl, sym, ap, subst, ◌<◌, ◌∙◌}
use Rattle.std.specs.declared.ops.Bound.{Bound}
use Rattle.std.specs.declared.ops.Bound.TheVariants.{Unbounded}
use Rattle.std.proofs.lemmas.List.{reverse-append}
use Rattle.std.proofs.lemmas.Option.{slice_get-map}
use Rattle.std.specs.List.{slice_get}
use Rattle.std.specs.Option.{option_map}
use Rattle.sled_nodes.specs.Order.{Key}
use Rattle.sled_nodes.specs.Among.{is_up_to, is_from}
use Rattle.sled_nodes.specs.Ranges.{Range, is_in_range, pairs_in}
use Rattle.sled_nodes.specs.Prefix.{behind}
use Rattle.sled_nodes.specs.theory.Places.{IsPlaceOf}
use Rattle.sled_nodes.proofs.Behind.{filter_behind, length_behind, append_behind}

module _ (p : Key) where
  reverse_behind : (es : List (Key × Key)) → reverse (behind p es) ≡ behind p (reverse es)
  reverse_behind [] = refl
  reverse_behind (x ∷ xs) =
      reverse-append ((p ++ x.0, x.1) ∷ []) (behind p xs) ∙ (ap (λ l. l ++ (p ++ x.0, x.1) ∷ []) (reverse_behind xs)
      ∙ (sym (append_behind p (reverse xs) (x ∷ [])) ∙ ap (behind p) (sym (reverse-append (x ∷ []) xs))))

  placed_behind : (ws es : List (Key × Key)) (place : ℕ) (found : Option ℕ) → IsPlaceOf (slice_get ws place) es found → IsPlaceOf (slice_get (behind p ws) place) (behind p es) found
  placed_behind ws es place None h = slice_get-map (λ e. (p ++ e.0, e.1)) ws place ∙ ap (option_map (λ e. (p ++ e.0, e.1))) h
  placed_behind ws es place (Some i) h = (
    subst (λ n. i < n) (sym (length_behind p es)) h.0,
    slice_get-map (λ e. (p ++ e.0, e.1)) es i ∙ (ap (option_map (λ e. (p ++ e.0, e.1))) h.1 ∙ sym (slice_get-map (λ e. (p ++ e.0, e.1)) ws place)),
  )

  turned : (back : Bool) (ws : List (Key × Key)) → cond back (reverse (behind p ws)) (behind p ws) ≡ behind p (cond back (reverse ws) ws)
  turned true ws = reverse_behind ws
  turned false ws = refl

  nothing : (es : List (Key × Key)) → filter (λ e. false) es ≡ []
  nothing [] = refl
  nothing (x ∷ xs) = nothing xs

  -- how many are up to a bound
  abbrev up_to : Bound Key → Range
  up_to hi = record { lo = Unbounded; hi = hi; back = false }

  pub count_behind : (hi to : Bound Key) (es : List (Key × Key)) (n : ℕ) → ((r : Key) → is_up_to hi (p ++ r) ≡ is_up_to to r) → n ≡ length (pairs_in (up_to to) es) → n ≡ length (pairs_in (up_to hi) (behind p es))
  count_behind hi to es n same h = h ∙ sym (ap length (filter_behind p (is_in_range (up_to hi)) (is_in_range (up_to to)) same es) ∙ length_behind p (filter (λ e. is_in_range (up_to to) e.0) es))

  pub count_none : (hi : Bound Key) (es : List (Key × Key)) → ((r : Key) → is_up_to hi (p ++ r) ≡ false) → 0 ≡ length (pairs_in (up_to hi) (behind p es))
  count_none hi es none = sym (ap length (filter_behind p (is_in_range (up_to hi)) (λ x. false) none es ∙ ap (behind p) (nothing es)))

  module _ (lo hi : Bound Key) (back : Bool) (es : List (Key × Key)) (place : ℕ) where
    pub place_behind : (from to : Bound Key) (found : Option ℕ) → ((r : Key) → is_from lo (p ++ r) ≡ is_from from r) → ((r : Key) → is_up_to hi (p ++ r) ≡ is_up_to to r) → IsPlaceOf (slice_get (pairs_in (record { lo = from; hi = to; back = back }) es) place) es found → IsPlaceOf (slice_get (pairs_in (record { lo = lo; hi = hi; back = back }) (behind p es)) place) (behind p es) found
    place_behind from to found f g h =
        let within : filter (λ e. is_in_range (record { lo = lo; hi = hi; back = back }) e.0) (behind p es) ≡ behind p (filter (λ e. is_in_range (record { lo = from; hi = to; back = back }) e.0) es) =
        filter_behind p (is_in_range (record { lo = lo; hi = hi; back = back })) (is_in_range (record { lo = from; hi = to; back = back })) (λ r. ap (λ b. b && is_up_to hi (p ++ r)) (f r) ∙ ap (λ b. is_from from r && b) (g r)) es in
        subst (λ (l : List (Key × Key)). IsPlaceOf (slice_get l place) (behind p es) found)
        (sym (ap (λ (l : List (Key × Key)). cond back (reverse l) l) within ∙ turned back (filter (λ e. is_in_range (record { lo = from; hi = to; back = back }) e.0) es)))
        (placed_behind (pairs_in (record { lo = from; hi = to; back = back }) es) es place found h)

    abbrev no_pairs : List (Key × Key)
    no_pairs = []

    none_turned : (b : Bool) → slice_get (cond b (reverse no_pairs) no_pairs) place ≡ None
    none_turned true = refl
    none_turned false = refl

    pub none_within : ((r : Key) → is_in_range (record { lo = lo; hi = hi; back = back }) (p ++ r) ≡ false) → slice_get (pairs_in (record { lo = lo; hi = hi; back = back }) (behind p es)) place ≡ None
    none_within n =
        let within : filter (λ e. is_in_range (record { lo = lo; hi = hi; back = back }) e.0) (behind p es) ≡ [] =
        filter_behind p (is_in_range (record { lo = lo; hi = hi; back = back })) (λ x. false) n es ∙ ap (behind p) (nothing es) in
        ap (λ (l : List (Key × Key)). slice_get (cond back (reverse l) l) place) within ∙ none_turned back

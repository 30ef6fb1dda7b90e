-- The laws of queues.
use Rattle.std.proofs.Common.{◌≡◌, Bool, true, false, cond, [], ◌∷◌, ◌++◌, Option, Some, None, option_map, sym, refl, ap, ◌∙◌}
use Rattle.std.proofs.Math.Path.{fun_ext}
use Rattle.sled_nodes.proofs.Basics.{none_some, some_is}
use Rattle.sled_model.specs.Backlog.{comes, come_all}
use Rattle.sled_model.specs.State.{Queue, matches}
use Rattle.sled_model.specs.declared.event.Event.{Event}
use Rattle.sled_queues.specs.Values.{WaitingValue}
use Rattle.sled_queues.specs.Queues.{prepared_in, committed_in, cancelled_in}
use Rattle.sled_queues.specs.Laws.{DeliversLaw, CancelsLaw}
use Rattle.sled_queues.proofs.Shapes.{queue_of}

-- two functions that are the same on what a queue is, if there is one
pub on_option : {W X : Type 0} (f g : W → X) (o : Option W) → ((w : W) → o ≡ Some w → f w ≡ g w) → option_map f o ≡ option_map g o
on_option f g None h = refl
on_option f g (Some w) h = ap Some (h w refl)

pub map_twice : {W X Y : Type 0} (f : W → X) (g : X → Y) (o : Option W) → option_map g (option_map f o) ≡ option_map (λ w. g (f w)) o
map_twice f g None = refl
map_twice f g (Some w) = refl

pub map_same : {W : Type 0} (o : Option W) → option_map (λ w. w) o ≡ o
map_same None = refl
map_same (Some w) = refl

hides : (e : Event) (w : WaitingValue) (b : Bool) → queue_of (cond b (record w { coming = w.coming ++ e ∷ [] }) w) ≡ queue_of w
hides e w true = refl
hides e w false = refl

-- what becomes of a queue with nothing prepared, whether it waits for the event or not
abbrev gained : Event → WaitingValue → Bool → WaitingValue
gained e w b = cond b (record w { coming = w.coming ++ e ∷ [] }) w

told_as : (e : Event) (w : WaitingValue) (b : Bool) → w.coming ≡ [] → queue_of (committed_in (gained e w b)) ≡ cond b (record (queue_of w) { backlog = comes e w.backlog }) (queue_of w)
told_as e w true calm = ap (λ l. record (queue_of w) { backlog = come_all (l ++ e ∷ []) w.backlog }) calm
told_as e w false calm = ap (λ l. record (queue_of w) { backlog = come_all l w.backlog }) calm

gone_as : (e : Event) (w : WaitingValue) (b : Bool) → w.coming ≡ [] → cancelled_in (gained e w b) ≡ w
gone_as e w true calm = ap (λ l. record w { coming = l }) (sym calm)
gone_as e w false calm = ap (λ l. record w { coming = l }) (sym calm)

pub calm_from : (f : WaitingValue → WaitingValue) (o : Option WaitingValue) (w : WaitingValue) → ((v : WaitingValue) → o ≡ Some v → (f v).coming ≡ []) → option_map f o ≡ Some w → w.coming ≡ []
calm_from f None w h e = none_some e
calm_from f (Some v) w h e = ap (λ (z : WaitingValue). z.coming) (sym (some_is e)) ∙ h v refl

pub delivers_law : DeliversLaw
delivers_law queues calm tree e = record {
  hidden = fun_ext (λ n. map_twice (prepared_in tree e) queue_of (queues n) ∙ on_option (λ w. queue_of (prepared_in tree e w)) queue_of (queues n) (λ w there. hides e w (matches tree e (queue_of w))));
  shown = fun_ext (λ n.
      ap (option_map queue_of) (map_twice (prepared_in tree e) committed_in (queues n))
      ∙ map_twice (λ w. committed_in (prepared_in tree e w)) queue_of (queues n)
      ∙ on_option (λ w. queue_of (committed_in (prepared_in tree e w))) (λ w. cond (matches tree e (queue_of w)) (record (queue_of w) { backlog = comes e w.backlog }) (queue_of w)) (queues n) (λ w there. told_as e w (matches tree e (queue_of w)) (calm.none n w there))
      ∙ sym (map_twice queue_of (λ (q : Queue). cond (matches tree e q) (record q { backlog = comes e q.backlog }) q) (queues n)));
  calm = record {
    none = λ n w there. calm_from (λ w. committed_in (prepared_in tree e w)) (queues n) w (λ v h. refl) (sym (map_twice (prepared_in tree e) committed_in (queues n)) ∙ there);
  };
}

pub cancels_law : CancelsLaw
cancels_law queues calm tree e = fun_ext (λ n.
    map_twice (prepared_in tree e) cancelled_in (queues n)
    ∙ on_option (λ w. cancelled_in (prepared_in tree e w)) (λ w. w) (queues n) (λ w there. gone_as e w (matches tree e (queue_of w)) (calm.none n w there))
    ∙ map_same (queues n))

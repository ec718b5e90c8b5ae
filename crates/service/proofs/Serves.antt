-- One call more of a list that is served, and the end of it. Assumes nothing.
use Rattle.std.proofs.Common.{◌≡◌, List, [], ◌∷◌, ◌++◌, sym, refl, ap, ◌∙◌, append_assoc, append-nil}
use Rattle.service.specs.Asks.{Ask, Reply}
use Rattle.service.specs.Serving.{State, step, replies, at_the_end, ServedBehind}

replies_none : (s : State) → replies s [] ≡ []
unfolding replies
replies_none s = refl

replies_more : (s : State) (ask : Ask) (asks : List Ask) → replies s (ask ∷ asks) ≡ (step s ask).reply ∷ replies (step s ask).state asks
unfolding replies
replies_more s ask asks = refl

ends_none : (s : State) → at_the_end s [] ≡ s
unfolding at_the_end
ends_none s = refl

ends_more : (s : State) (ask : Ask) (asks : List Ask) → at_the_end s (ask ∷ asks) ≡ at_the_end (step s ask).state asks
unfolding at_the_end
ends_more s ask asks = refl

-- what was replied so far, with what the definitions give for the calls that are left, is what was there before with what they give for all
pub record SoFar (before : List Reply) (s : State) (given : List Reply) (left : List Ask) (start : State) (all : List Ask) : Type 0 where
  pub so_replied : given ++ replies s left ≡ before ++ replies start all
  pub so_ends : at_the_end s left ≡ at_the_end start all

pub so_far_none : (before : List Reply) (start : State) (all : List Ask) → SoFar before start before all start all
so_far_none before start all = record { so_replied = refl; so_ends = refl }

pub so_far_more : (before : List Reply) (s s' start : State) (given given' : List Reply) (ask : Ask) (left now_left all : List Ask) (reply : Reply) → now_left ≡ ask ∷ left → reply ≡ (step s ask).reply → s' ≡ (step s ask).state → given' ≡ given ++ reply ∷ [] → SoFar before s given now_left start all → SoFar before s' given' left start all
so_far_more before s s' start given given' ask left now_left all reply is r e more h =
    record {
      so_replied =
          (λ i. more i ++ replies (e i) left)
          ∙ append_assoc given (reply ∷ []) (replies (step s ask).state left)
          ∙ ap (λ x. given ++ (x ∷ replies (step s ask).state left)) r
          ∙ sym (ap (λ l. given ++ l) (ap (replies s) is ∙ replies_more s ask left))
          ∙ h.so_replied;
      so_ends = ap (λ x. at_the_end x left) e ∙ sym (ap (at_the_end s) is ∙ ends_more s ask left) ∙ h.so_ends;
    }

pub so_far_all : (before : List Reply) (s start : State) (given : List Reply) (left all : List Ask) → left ≡ [] → SoFar before s given left start all → ServedBehind before start all given s
so_far_all before s start given left all none h =
    record {
      replies_are = sym (append-nil given) ∙ sym (ap (λ l. given ++ l) (ap (replies s) none ∙ replies_none s)) ∙ h.so_replied;
      ends_at = sym (ap (at_the_end s) none ∙ ends_none s) ∙ h.so_ends;
    }

use Rattle.std.proofs.Common.{◌≡◌, ℕ, List, [], ◌∷◌, ◌++◌, ◌⊎◌, inl, inr, refl, ◌∙◌, append_assoc, append-nil, rules}
use Rattle.std.proofs.Output.{has_written_append, has_written_of_eq}
use Rattle.std.proofs.lemmas.Slice.Zip.{Zip-more, either_empty_from_Zip}
use Rattle.analyser.specs.Words.{data_line, data_lines}
use Rattle.analyser.proofs.exchanges.write_data.Goals as goal

none_left : (meant sent answered : List ℕ) → (sent ≡ []) ⊎ (answered ≡ []) → data_lines meant sent answered ≡ []
none_left meant [] answered h = refl
none_left meant (out ∷ sent) [] h = refl
none_left meant (out ∷ sent) (back ∷ answered) (inl e) = cc
none_left meant (out ∷ sent) (back ∷ answered) (inr e) = cc

pub loop-out-init : goal.loop-out-init
loop-out-init g c = (search rules, tt, λ plain. ([], search rules, search rules))

pub loop-out-preserved : goal.loop-out-preserved
loop-out-preserved g c =
    let fronts = Zip-more c.loop-out.out-iterator c.next.new.self _ (c.in-Some.out, c.in-Some.back) c.in-Some.is c.next.ensures.steps in (
      search rules,
      tt,
      λ plain.
          let so_far = c.loop-out.invariant.2 plain in (
            so_far.0 ++ data_line c.args.meant.now c.in-Some.out.now c.in-Some.back.now,
            has_written_append _ _ _ _ _ _ so_far.1 (search rules),
            append_assoc so_far.0 _ _ ∙ (rw (fronts.0, fronts.1) at so_far.2),
          ),
    )

pub returns : goal.returns
returns g c = λ plain _.
    let so_far = c.loop-out.invariant.2 plain in
    let none = none_left c.args.meant.now _ _ (either_empty_from_Zip c.loop-out.out-iterator c.next.new.self _ c.in-None.is c.next.ensures.steps) in
    has_written_of_eq _ _ _ _ _ (rw (none, append-nil) at so_far.2) so_far.1

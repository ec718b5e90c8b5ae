-- What went over a wire: a row of frames, one after another and none between them. Assumes nothing.
use Rattle.std.specs.Prelude.{◌≡◌, ℕ, List, [], ◌∷◌}

-- no frame: the very same wire; else the wire heard the first frame, and the others follow from there
abbrev pub Chain : {W : Type 0} → (W → List ℕ → W → Type 0) → List (List ℕ) → W → W → Type 0
Chain heard [] before after = before ≡ after
Chain {W} heard (frame ∷ frames) before after = (between : W) × (heard before frame between) × (Chain heard frames between after)

-- One element more of a row that is printed.
use Rattle.std.proofs.Common.{◌≡◌, ℕ, ◌+◌, ◌<◌, List, [], ◌++◌, length, take, get_or, map, sym, ap, ◌∙◌}
use Rattle.std.proofs.lemmas.List.{flat_map_more, get_or-map, length-map, take_more}
use Rattle.std.specs.List.{flat_map}

pub one_more_row : {A B : Type 0} (f : B → List ℕ) (g : A → B) (items : List A) (i : ℕ) (item : A) → i < length items → item ≡ get_or items i item
    → flat_map f (take i (map g items)) ++ f (g item) ≡ flat_map f (take (i + 1) (map g items))
one_more_row f g items i item below is =
    let there : i < length (map g items) = rw (length-map items g) below in
    let same : get_or (map g items) i (g item) ≡ g item = get_or-map g items i item (g item) below ∙ ap g (sym is) in
    flat_map_more f [] (take i (map g items)) (g item) ∙ ap (flat_map f) (sym (rw same at (take_more (map g items) i (g item) there)))

-- Which blocks are bad, die by die, is which blocks are bad in the order of all blocks.
use Rattle.recovery.proofs.Common.{Bool, DieState, List, Numbers, [], ap, arith, bad_in, bad_of, below, flat_map}
use Rattle.recovery.proofs.Common.{length, length-map, map, new_die, refl, slice_index_or, spots, sym, ℕ, ◌++◌, ◌∙◌}
use Rattle.recovery.proofs.Common.{◌∷◌, ◌≡◌}
use Rattle.std.proofs.lemmas.List.{get_or_default, map-append}
use Rattle.std.proofs.lemmas.List.Folds.{flat_map-map}
use Rattle.ufs_spec.specs.Dies.{is_bad_block}
use Rattle.ufs_spec.proofs.Lists.{map_twice}
use Rattle.ufs_laws.proofs.plain_contents.ListParts.{made_of}

pub map_joined : {X Y Z : Type 0} (f : Y → Z) (g : X → List Y) (xs : List X) →
    map f (flat_map g xs) ≡ flat_map (λ x. map f (g x)) xs
map_joined f g [] = refl
map_joined {X} {Y} {Z} f g (x ∷ xs) = map-append f (g x) (flat_map g xs) ∙ ap (λ (zs : List Z). map f (g x) ++ zs)
    (map_joined f g xs)

-- the dies' states in place of the dies
rows_of_states : {D : Type 0} (state : D → DieState) (blocks : ℕ) (dies : List D) →
    flat_map (bad_in state blocks) dies ≡ flat_map (bad_in (λ die. die) blocks) (map state dies)
rows_of_states state blocks [] = refl
rows_of_states state blocks (die ∷ dies) = ap (λ bads. bad_in state blocks die ++ bads)
    (rows_of_states state blocks dies)

rows_in_order : (n : Numbers) (dies : List DieState) → length dies ≡ n.dies →
    flat_map (bad_in (λ die. die) n.blocks) dies ≡ map (bad_of dies) (spots n)
rows_in_order n dies all =
    let die_at : ℕ → DieState = λ k. slice_index_or dies k (new_die 0 0) in
    let row : DieState → List Bool = λ die. map (is_bad_block die) (below n.blocks) in
    let listed : map die_at (below n.dies) ≡ dies =
    made_of die_at n.dies dies all (λ i d lt. get_or_default dies i (new_die 0 0) d (omega arith)) in
    let each : (λ (die : ℕ). map (bad_of dies) (map (λ (block : ℕ). record { die = die; block = block })
    (below n.blocks))) ≡ (λ (die : ℕ). row (die_at die)) =
    λ i die. map_twice (bad_of dies) (λ (block : ℕ). record { die = die; block = block }) (below n.blocks) i in
    ap (flat_map row) (sym listed)
    ∙ (flat_map-map row die_at (below n.dies)
    ∙ (ap (λ (f : ℕ → List Bool). flat_map f (below n.dies)) (sym each)
    ∙ sym (map_joined (bad_of dies) (λ (die : ℕ). map (λ (block : ℕ). record { die = die; block = block })
    (below n.blocks)) (below n.dies))))

pub bad_in_order : {D : Type 0} (state : D → DieState) (n : Numbers) (dies : List D) → length dies ≡ n.dies →
    flat_map (bad_in state n.blocks) dies ≡ map (bad_of (map state dies)) (spots n)
bad_in_order state n dies all =
    rows_of_states state n.blocks dies ∙ rows_in_order n (map state dies) (length-map dies state ∙ all)

-- Which read brings the rest of a page, and which pages wait still once a read came.
use Rattle.ftl_core.proofs.Common.{Bool, List, Name, None, Option, OwedSource, Pending, Some, [], ap, awaited_by}
use Rattle.ftl_core.proofs.Common.{awaits, completed, completed_by, cons_option, false, false≢true, filter, filter_map}
use Rattle.ftl_core.proofs.Common.{if◌then◌else◌, name_cases, not, own_name, read_by, read_from, refl, rest_kept}
use Rattle.ftl_core.proofs.Common.{rest_of_name, rests_filled, same_name, source_kept, sym, true, waiting, waits, ℕ}
use Rattle.ftl_core.proofs.Common.{⊎_elim, ◌∙◌, ◌∷◌, ◌≡◌}
use Rattle.std.proofs.Common.{is_some}
use Rattle.std.specs.Prelude.{cond}
use Rattle.ufs_spec.specs.Moves.{rests_without}
use Rattle.ufs_spec.specs.Translation as layer
use Rattle.write_cache.specs.declared.rests.OwedSource.TheVariants as owed
use Rattle.write_cache.specs.declared.rests.Rest as cache
use Rattle.write_cache.specs.Rests.{comes_by}

-- What a page awaits

-- the read that a page waits for is the one that its rest waits for
read_same : (own : Name) (source : OwedSource) → read_by own source ≡ read_from own (source_kept source)
read_same own (owed.Page name place) = refl
read_same own (owed.Slot name) = refl

pub awaits_by : (name : Name) (p : Pending) (rest : cache.Rest) → p.rest ≡ Some rest →
    awaits name p ≡ same_name (read_from (own_name p) (source_kept rest.source)) name
awaits_by name p rest e =
    ap (λ (o : Option cache.Rest). comes_by name (awaited_by (own_name p) o)) e
    ∙ ap (λ (n : Name). same_name n name) (read_same (own_name p) rest.source)

pub none_awaited : (name : Name) (p : Pending) → p.rest ≡ None → awaits name p ≡ false
none_awaited name p e = ap (λ (o : Option cache.Rest). comes_by name (awaited_by (own_name p) o)) e

-- a page that awaits a read has a rest
pub awaits_rest : (name : Name) (p : Pending) → awaits name p ≡ true →
    (rest : cache.Rest) × (p.rest ≡ Some rest) × (read_from (own_name p) (source_kept rest.source) ≡ name)
awaits_rest name p is = by p.rest refl
  where
    by : (o : Option cache.Rest) → p.rest ≡ o →
        (rest : cache.Rest) × (p.rest ≡ Some rest) × (read_from (own_name p) (source_kept rest.source) ≡ name)
    by None e = absurd (false≢true (sym (none_awaited name p e) ∙ is))
    by (Some rest) e = (
      rest,
      e,
      ⊎_elim (λ k. k.1) (λ k. absurd (false≢true (sym k.0 ∙ sym (awaits_by name p rest e) ∙ is)))
          (name_cases (read_from (own_name p) (source_kept rest.source)) name),
    )

-- The rests that are left

-- the pages that wait still are those that wait for another read
pub filled_waits : (name : Name) (base : List ℕ) (ps : List Pending) →
    waiting (rests_filled name base ps) ≡ filter (λ p. not (awaits name p)) (waiting ps)
filled_waits name base [] = refl
filled_waits name base (p ∷ ps) =
    by (awaits name p) refl (filled_waits name (completed base p).body ps) (filled_waits name base ps)
  where
    left : Pending → Bool
    left q = not (awaits name q)

    completed_whole : (o : Option cache.Rest) → p.rest ≡ o → waits (completed_by base o p) ≡ false
    completed_whole None e = ap is_some e
    completed_whole (Some rest) e = refl

    by : (a : Bool) → awaits name p ≡ a →
        waiting (rests_filled name (completed base p).body ps) ≡ filter (λ q. not (awaits name q)) (waiting ps) →
        waiting (rests_filled name base ps) ≡ filter (λ q. not (awaits name q)) (waiting ps) →
        waiting (if a then completed base p ∷ rests_filled name (completed base p).body ps
        else p ∷ rests_filled name base ps)
        ≡ filter (λ q. not (awaits name q)) (cond (waits p) (p ∷ waiting ps) (waiting ps))
    by true is filled same =
        let r = awaits_rest name p is in
        ap (λ (b : Bool). cond b (completed base p ∷ waiting (rests_filled name (completed base p).body ps))
        (waiting (rests_filled name (completed base p).body ps))) (completed_whole p.rest refl)
        ∙ filled
        ∙ sym (ap (λ (b : Bool). filter (λ q. not (awaits name q)) (cond b (p ∷ waiting ps) (waiting ps)))
        (ap is_some r.1)
        ∙ ap (λ (b : Bool). cond (not b) (p ∷ filter (λ q. not (awaits name q)) (waiting ps))
        (filter (λ q. not (awaits name q)) (waiting ps))) is)
    by false is filled same = split (waits p) refl
      where
        split : (w : Bool) → waits p ≡ w →
            cond (waits p) (p ∷ waiting (rests_filled name base ps)) (waiting (rests_filled name base ps))
            ≡ filter (λ q. not (awaits name q)) (cond (waits p) (p ∷ waiting ps) (waiting ps))
        split true e =
            ap (λ (b : Bool). cond b (p ∷ waiting (rests_filled name base ps)) (waiting (rests_filled name base ps))) e
            ∙ ap (λ (qs : List Pending). p ∷ qs) same
            ∙ sym (ap (λ (b : Bool). filter (λ q. not (awaits name q)) (cond b (p ∷ waiting ps) (waiting ps))) e
            ∙ ap (λ (b : Bool). cond (not b) (p ∷ filter (λ q. not (awaits name q)) (waiting ps))
            (filter (λ q. not (awaits name q)) (waiting ps))) is)
        split false e =
            ap (λ (b : Bool). cond b (p ∷ waiting (rests_filled name base ps)) (waiting (rests_filled name base ps))) e
            ∙ same
            ∙ sym (ap (λ (b : Bool). filter (λ q. not (awaits name q)) (cond b (p ∷ waiting ps) (waiting ps))) e)

-- and their rests are those that wait for another read
pub left_rests : (name : Name) (ps : List Pending) →
    filter_map rest_kept (filter (λ p. not (awaits name p)) ps) ≡ rests_without name (filter_map rest_kept ps)
left_rests name [] = refl
left_rests name (p ∷ ps) = by p.rest refl (left_rests name ps)
  where
    by : (o : Option cache.Rest) → p.rest ≡ o →
        filter_map rest_kept (filter (λ q. not (awaits name q)) ps) ≡ rests_without name (filter_map rest_kept ps) →
        filter_map rest_kept (cond (not (awaits name p)) (p ∷ filter (λ q. not (awaits name q)) ps)
        (filter (λ q. not (awaits name q)) ps))
        ≡ rests_without name (cons_option (rest_kept p) (filter_map rest_kept ps))
    by None e behind =
        ap (λ (b : Bool). filter_map rest_kept (cond (not b) (p ∷ filter (λ q. not (awaits name q)) ps)
        (filter (λ q. not (awaits name q)) ps))) (none_awaited name p e)
        ∙ ap (λ (o : Option layer.Rest). cons_option o (filter_map rest_kept (filter (λ q. not (awaits name q)) ps)))
        (ap (rest_of_name (own_name p)) e)
        ∙ behind
        ∙ sym (ap (λ (o : Option layer.Rest). rests_without name (cons_option o (filter_map rest_kept ps)))
        (ap (rest_of_name (own_name p)) e))
    by (Some rest) e behind =
        ap (λ (b : Bool). filter_map rest_kept (cond (not b) (p ∷ filter (λ q. not (awaits name q)) ps)
        (filter (λ q. not (awaits name q)) ps))) (awaits_by name p rest e)
        ∙ split (same_name (read_from (own_name p) (source_kept rest.source)) name)
        ∙ sym (ap (λ (o : Option layer.Rest). rests_without name (cons_option o (filter_map rest_kept ps)))
        (ap (rest_of_name (own_name p)) e))
      where
        now : layer.Rest
        now = record { name = own_name p; source = source_kept rest.source }

        split : (b : Bool) →
            filter_map rest_kept (cond (not b) (p ∷ filter (λ q. not (awaits name q)) ps)
            (filter (λ q. not (awaits name q)) ps))
            ≡ cond (not b) (now ∷ rests_without name (filter_map rest_kept ps))
            (rests_without name (filter_map rest_kept ps))
        split true = behind
        split false =
            ap (λ (o : Option layer.Rest). cons_option o
            (filter_map rest_kept (filter (λ q. not (awaits name q)) ps))) (ap (rest_of_name (own_name p)) e)
            ∙ ap (λ (rs : List layer.Rest). now ∷ rs) behind

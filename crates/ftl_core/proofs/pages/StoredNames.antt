-- What is stored of a content is the page of its name, and where that page stands.
use Rattle.ftl_core.proofs.Common.{Name, None, Option, Place, Some, Standing, Stored, ap, none-some, option_map}
use Rattle.ftl_core.proofs.Common.{same_Some, sym, ◌∙◌, ◌≡◌}
use Rattle.ftl_core.specs.Describes.{page_of_name, page_stored}

-- as LedgerKept has it of each key
abbrev pub AreAlike : Standing → Option Stored → Option Name → Type 0
AreAlike standing s o = option_map page_stored s ≡ option_map (page_of_name standing) o

-- what is stored has the name, and stands
pub stored_there : (standing : Standing) (s : Stored) (o : Option Name) → AreAlike standing (Some s) o →
    (o ≡ Some s.name) × (standing s.name.number s.name.index ≡ Some s.place)
stored_there standing s None e = absurd (none-some _ (sym e))
stored_there standing s (Some name) e =
    let same = same_Some (page_stored s) (page_of_name standing name) e in
    let is : s.name ≡ name = ap (λ (z : Name × Option Place). z.0) same in (
      ap (λ (z : Name). Some z) (sym is),
      ap (λ (z : Name). standing z.number z.index) is ∙ sym (ap (λ (z : Name × Option Place). z.1) same),
    )

-- of a name something is stored, and it stands there
pub name_there : (standing : Standing) (s : Option Stored) (name : Name) → AreAlike standing s (Some name) →
    (x : Stored) × (s ≡ Some x) × (x.name ≡ name) × (standing name.number name.index ≡ Some x.place)
name_there standing None name e = absurd (none-some _ e)
name_there standing (Some s) name e =
    let same = same_Some (page_stored s) (page_of_name standing name) e in (
      s,
      λ i. Some s,
      ap (λ (z : Name × Option Place). z.0) same,
      sym (ap (λ (z : Name × Option Place). z.1) same),
    )

-- where nothing is stored there is no name
pub none_there : (standing : Standing) (o : Option Name) → AreAlike standing None o → o ≡ None
none_there standing None e = λ i. None
none_there standing (Some name) e = absurd (none-some _ e)

-- what has the name and stands there is stored
pub stored_is : (standing : Standing) (s : Stored) (name : Name) → s.name ≡ name →
    standing name.number name.index ≡ Some s.place → AreAlike standing (Some s) (Some name)
stored_is standing s name is stands = λ i. Some (is i, sym stands i)

-- where the page stands as before, it is stored as before
pub stored_still : (standing now : Standing) (s : Option Stored) (o : Option Name) →
    ((name : Name) → o ≡ Some name → now name.number name.index ≡ standing name.number name.index) →
    AreAlike standing s o → AreAlike now s o
stored_still standing now s None same e = e
stored_still standing now s (Some name) same e =
    e ∙ ap (λ (at : Option Place). Some (name, at)) (sym (same name (λ i. Some name)))

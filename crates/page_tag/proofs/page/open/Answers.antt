use Rattle.page_tag.proofs.page.open.Goals as goal

pub returns-in_default-clause-refused : goal.returns-in_default-clause-refused
returns-in_default-clause-refused c = λ _. c.sealed_tag.ensures.refused c.in_default.is

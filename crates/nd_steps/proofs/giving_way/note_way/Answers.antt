use Rattle.nd_steps.proofs.giving_way.note_way.Goals as goal

pub returns-in-Some-clause-notes : goal.returns-in-Some-clause-notes
returns-in-Some-clause-notes g c = rw c.in-Some.is (record {
  routers = λ at. (c.failed.ensures.stands at).stands;
  redirects = λ at. (c.target_gone.ensures.stands at).stands;
})

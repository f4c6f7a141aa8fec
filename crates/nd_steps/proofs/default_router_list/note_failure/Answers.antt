use Rattle.nd_steps.proofs.default_router_list.note_failure.Goals as goal

pub returns-in-Failed-clause-notes : goal.returns-in-Failed-clause-notes
returns-in-Failed-clause-notes g c = λ at. rw c.in-Failed.is (record {
  routers = (c.failed.ensures.stands at).stands;
  redirects = (c.target_gone.ensures.stands at).stands;
})

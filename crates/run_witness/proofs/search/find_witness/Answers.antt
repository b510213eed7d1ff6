use Rattle.run_witness.proofs.search.find_witness.Goals as goal

pub returns-in-Ok : goal.returns-in-Ok
returns-in-Ok g c = record { loaded = _; loads = c.in_ok-meta.ensures; certificate = _; valid = c.in-Ok.ensures.valid }

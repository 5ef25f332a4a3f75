use Rattle.stage_queues.proofs.lane.lane_with_bell.Given as goal

abbrev pub ghosts-opened : goal.ghosts-opened
ghosts-opened g a = record { capacity = a.capacity; producers = a.producers }

use Rattle.configuration.proofs.reading.Lines.+replicas.Given as goal

abbrev pub decreases-replicas : goal.decreases-replicas
decreases-replicas l = l.more

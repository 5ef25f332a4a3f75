pub mod Lines_of_replicas
